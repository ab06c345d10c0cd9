pub mod Panels
pub mod Trials
pub mod Sizes
pub mod Visible
pub mod Wide
pub mod Table
pub mod Wrong
