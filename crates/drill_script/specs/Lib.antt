pub mod Draws
pub mod Divs
pub mod Hanging
pub mod DrillNodes
pub mod DrillPages
pub mod DrillLines
pub mod Given
pub mod LineKinds
