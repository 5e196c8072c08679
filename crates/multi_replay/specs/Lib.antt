pub mod Incoming
pub mod Folds
pub mod States
pub mod Held
pub mod Codes
pub mod Laws
