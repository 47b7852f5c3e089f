pub mod Passing
pub mod Tabled
pub mod Meaning
pub mod Spots
