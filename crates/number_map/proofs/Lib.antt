pub mod RowLemmas
pub mod MapLemmas
pub mod PlaceLemmas
pub mod ShelfLemmas
