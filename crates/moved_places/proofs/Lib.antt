pub mod Lists
pub mod OwnWords
pub mod CodeBlocks
pub mod Pieces
pub mod Indexing
pub mod Stretches
pub mod Whole
