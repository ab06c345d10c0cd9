pub mod Trials
pub mod Examples
pub mod Promises
pub mod Listed
pub mod Wide
