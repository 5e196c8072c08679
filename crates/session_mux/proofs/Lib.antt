pub mod TagLemmas
pub mod TextLemmas
pub mod RouteLemmas
pub mod AnswerTexts
