pub mod Changes
pub mod Advised
pub mod Trials
pub mod Shared
pub mod Texts
pub mod Explain
pub mod Told
pub mod Explained
