pub mod Grid
pub mod Payloads
