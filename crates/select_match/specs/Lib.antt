pub mod Texts
pub mod Elements
pub mod Matches
pub mod Outcomes
pub mod Subjects
pub mod Steps
pub mod Families
