pub mod Forms
pub mod Loops
pub mod Optional
