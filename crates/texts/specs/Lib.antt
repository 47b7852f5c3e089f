pub mod Label
pub mod Lawful
pub mod Meant
pub mod Filled
pub mod Walked
