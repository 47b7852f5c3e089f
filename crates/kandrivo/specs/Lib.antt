pub mod Lines
pub mod Books
pub mod Fits
pub mod Picks
pub mod Words
