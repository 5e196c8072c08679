pub mod OutlineLemmas
pub mod ToldLemmas
pub mod DistinctLemmas
pub mod ViewLemmas
pub mod SpotLemmas
pub mod ApartLemmas
pub mod EditLemmas
pub mod MessageLemmas
pub mod FoldLemmas
pub mod FollowLemmas
pub mod SheetLemmas
pub mod KnownSheets
pub mod MoveLemmas
pub mod IdLemmas
pub mod IdMapLemmas
pub mod TableLemmas
pub mod LookLemmas
pub mod WalkLemmas
pub mod NewLemmas
pub mod TurnLemmas
pub mod MirrorLemmas
pub mod ReadLemmas
pub mod EditTableLemmas
mod PanelTurns
mod EditTurns
mod PanelsTold
mod PlaceLemmas
pub mod OrderLemmas
pub mod GrowLemmas
pub mod ChildLemmas
pub mod RankLemmas
mod SizeLemmas
mod PathLemmas
mod CountedLemmas
mod RecountLemmas
mod FewLemmas
mod EditCounts
mod ShelfLemmas
mod RankedIds
mod KeptOrders
