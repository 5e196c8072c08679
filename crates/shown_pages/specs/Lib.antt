pub mod Modes
pub mod ShownPages
pub mod ShownEdits
pub mod ShownLaws
pub mod Walks
