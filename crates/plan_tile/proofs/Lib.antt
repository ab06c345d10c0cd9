pub mod Samples
pub mod Answers
pub mod Entries
pub mod Found
