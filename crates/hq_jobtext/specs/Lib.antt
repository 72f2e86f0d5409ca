pub mod JobText
pub mod Answered
pub mod SoFar
pub mod DraftView
pub mod LineMeans
pub mod Rewritten
pub mod RewriteSteps
