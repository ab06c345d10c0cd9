pub mod Norm
pub mod Payloads
pub mod Properties
pub mod Unique
