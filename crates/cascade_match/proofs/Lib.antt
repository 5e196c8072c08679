pub mod MatchLemmas
pub mod TopLemmas
pub mod OrderLemmas
pub mod HeldForms
pub mod StandingLemmas
pub mod WinnerLemmas
pub mod FilingLemmas
