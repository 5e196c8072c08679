pub mod BoolLemmas
pub mod InsertedLemmas
pub mod ToldChanges
pub mod ToldSheets
pub mod MoveTexts
pub mod EffectLemmas
