pub mod Cicp
