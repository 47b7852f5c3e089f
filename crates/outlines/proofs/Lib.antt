pub mod Lines
pub mod Lists
