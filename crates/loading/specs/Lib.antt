pub mod Lacking
pub mod Laid
pub mod Loads
pub mod Fills
