pub mod MergedLemmas
pub mod FoundLemmas
pub mod FoundCounts
pub mod TextLemmas
pub mod SearchLemmas
