pub mod Lookup
pub mod Told
pub mod Found
