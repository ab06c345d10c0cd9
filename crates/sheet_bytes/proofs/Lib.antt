pub mod Says
pub mod Codes
pub mod Maps
pub mod Back
pub mod Yields
pub mod Never
