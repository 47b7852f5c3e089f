pub mod Walk
pub mod Texts
pub mod Puts
pub mod Loops
pub mod Undoing
