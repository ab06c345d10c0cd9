pub mod Told
pub mod Plain
pub mod Lent
