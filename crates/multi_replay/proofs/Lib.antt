mod ZeroFree
pub mod NumberLemmas
mod StepLemmas
pub mod PlaceLemmas
pub mod SendLemmas
pub mod BothLemmas
mod WholeLemmas
mod TakeLemmas
