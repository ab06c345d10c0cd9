pub mod Read
pub mod Fields
pub mod Codes
pub mod Reads
