pub mod Found
pub mod Merged
pub mod FoundLaws
pub mod Searches
