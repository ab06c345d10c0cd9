pub mod Runs
pub mod Pictures
pub mod GainMap
pub mod Roles
pub mod Lists
