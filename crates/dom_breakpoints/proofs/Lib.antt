pub mod ClimbLemmas
pub mod SetLemmas
