pub mod Commands
pub mod Depths
mod Floats
mod FrameBytes
mod FieldsRead
pub mod Messages
pub mod Results
pub mod SearchIds
pub mod SessionFrames
mod NeedsRead
pub mod NewsLaws
pub mod TextsUtf8
pub mod ZeroFree
pub mod MessageTokens
mod RootScans
mod ParameterKinds
mod MatchedScans
