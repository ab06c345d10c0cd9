pub mod Places
pub mod Sections
pub mod Ready
pub mod Promises
