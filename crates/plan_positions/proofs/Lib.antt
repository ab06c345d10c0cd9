pub mod Roles
pub mod Sizes
pub mod Counted
