pub mod Histories
pub mod Sentences
pub mod Settled
pub mod Steps
pub mod Opening
pub mod Knowing
pub mod Told
