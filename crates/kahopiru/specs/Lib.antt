pub mod Calls
pub mod Refusal
pub mod Tile
