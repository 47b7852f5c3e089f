pub mod Items
pub mod Scanning
pub mod Faults
pub mod Drafts
pub mod Meant
pub mod Codes
pub mod Listed
pub mod Checks
