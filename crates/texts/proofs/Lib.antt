pub mod Standing
pub mod Passing
