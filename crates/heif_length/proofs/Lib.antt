pub mod Extras
pub mod Shares
pub mod Widened
