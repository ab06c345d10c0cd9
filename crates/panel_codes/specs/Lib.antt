pub mod Codes
pub mod Known
