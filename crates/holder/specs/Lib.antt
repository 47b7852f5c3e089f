pub mod Placed
pub mod Codes
pub mod Copies
pub mod Walks
pub mod Contents
