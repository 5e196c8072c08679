pub mod Splices
pub mod Edits
pub mod Drafts
pub mod EditedRules
pub mod MediaEdits
pub mod StyleRuns
