pub mod ReadTexts
pub mod NoJobs
pub mod WholeTexts
pub mod Appending
