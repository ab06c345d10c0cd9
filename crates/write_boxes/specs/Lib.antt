pub mod Mdat
