pub mod GroupLemmas
pub mod RunLemmas
pub mod HistoryLemmas
pub mod SavedLemmas
pub mod SheetLemmas
pub mod PageLemmas
