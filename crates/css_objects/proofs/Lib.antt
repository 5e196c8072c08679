mod Ascending
pub mod Objects
pub mod Options
mod ReadLists
pub mod SheetIds
pub mod SoundKinds
mod WrittenParts
mod TakenParts
