pub mod Runs
pub mod Names
pub mod Completing
pub mod Orders
pub mod Enumerating
pub mod Books
pub mod Writing
