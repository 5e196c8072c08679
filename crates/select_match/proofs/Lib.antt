pub mod WalkLemmas
pub mod TextLemmas
pub mod SearchLemmas
pub mod LawLemmas
pub mod StepLemmas
pub mod FamilyLemmas
pub mod SubjectLemmas
pub mod NthLemmas
