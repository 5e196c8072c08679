pub mod Rows
pub mod Lines
pub mod Numbers
pub mod Chunks
