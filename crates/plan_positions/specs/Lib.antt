pub mod Options
pub mod Gain
pub mod Placed
