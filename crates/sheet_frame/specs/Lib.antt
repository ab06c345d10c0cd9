pub mod Map
pub mod Judges
pub mod Frame
