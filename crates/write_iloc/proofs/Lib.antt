pub mod Spans
pub mod Locations
