pub mod States
pub mod Least
pub mod Covering
pub mod Books
