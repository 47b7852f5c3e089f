pub mod Lines
pub mod Progress
pub mod Reaching
pub mod Choosing
pub mod Reading
