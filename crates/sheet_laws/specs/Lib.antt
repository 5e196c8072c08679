pub mod Said
pub mod Values
pub mod Readings
pub mod Places
pub mod Heads
pub mod Keywords
pub mod Inserted
