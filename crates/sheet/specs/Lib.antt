pub mod Sheet
pub mod Of
pub mod Answer
