pub mod Flags
pub mod Overlaps
pub mod Results
pub mod Whole
pub mod RangeBytes
pub mod TaskLaws
