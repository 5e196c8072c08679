pub mod Converted
pub mod Places
pub mod Taken
pub mod Values
