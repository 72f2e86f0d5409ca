pub mod Origins
pub mod Traces
pub mod Witness
pub mod Differences
pub mod Targets
