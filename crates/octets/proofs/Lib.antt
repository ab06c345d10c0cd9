pub mod Lists
pub mod Numbers
pub mod Boxes
pub mod Stores
pub mod Tests
