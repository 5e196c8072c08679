pub mod Tellings
pub mod NumberLaws
pub mod PairAnswers
pub mod Judged
pub mod Running
pub mod Following
pub mod Playing
pub mod PairStarts
