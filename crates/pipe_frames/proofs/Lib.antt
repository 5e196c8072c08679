pub mod FaultLemmas
pub mod PipeLemmas
pub mod WholeLemmas
pub mod FrameLemmas
pub mod ByteLemmas
pub mod FlowLemmas
