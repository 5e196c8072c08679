pub mod KeyLemmas
pub mod NodeLemmas
pub mod ArenaLemmas
pub mod ChangeLemmas
pub mod PairLemmas
pub mod SearchedLemmas
pub mod ShelfLemmas
pub mod WalkLemmas
