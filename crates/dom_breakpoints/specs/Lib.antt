pub mod Watched
pub mod Pauses
