pub mod Options
pub mod KindLaws
pub mod RowLaws
mod Order
pub mod ReadBack
pub mod TokenTexts
pub mod ReadTexts
pub mod ReadPlain
pub mod LookupLaws
pub mod WrittenTokens
pub mod TakenTokens
pub mod NumberTokens
