pub mod Bytes
pub mod Sayable
