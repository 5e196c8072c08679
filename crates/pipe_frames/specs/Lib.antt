pub mod Fault
pub mod Pipe
pub mod Whole
pub mod Frames
pub mod Calls
