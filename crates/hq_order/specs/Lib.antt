pub mod Rounds
pub mod Sweeping
pub mod View
pub mod Wide
