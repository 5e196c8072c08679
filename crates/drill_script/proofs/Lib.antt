pub mod DrawLemmas
pub mod DivLemmas
pub mod HangLemmas
pub mod NodeLaws
pub mod PageLaws
pub mod LineLaws
pub mod LineKindLaws
