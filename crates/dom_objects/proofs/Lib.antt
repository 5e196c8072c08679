pub mod AttributeLists
pub mod NodeDepths
pub mod NodeFloats
pub mod NodeUtf8
pub mod NodeObjects
pub mod NodeTrees
mod Rules
pub mod ScannedNodes
pub mod ScannedTokens
pub mod TellableLaws
pub mod TokenLists
mod TreesRead
mod UpperCase
mod Written
