pub mod OfFiles
