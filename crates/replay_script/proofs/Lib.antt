pub mod LineLemmas
pub mod FaultLemmas
pub mod SoundLemmas
pub mod ScriptLemmas
pub mod LoadLemmas
pub mod PairLemmas
