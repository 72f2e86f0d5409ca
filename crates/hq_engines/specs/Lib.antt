pub mod Buffers
pub mod Replay
pub mod Recording
pub mod Chart
pub mod Graph
pub mod Change
pub mod Explain
pub mod Witness
