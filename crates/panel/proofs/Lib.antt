pub mod Parts
pub mod Codes
pub mod Agreement
