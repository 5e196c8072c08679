pub mod Sessions
pub mod Targets
pub mod Tags
pub mod TaggedTexts
pub mod Routes
pub mod Laws
