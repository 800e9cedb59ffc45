pub mod Known
pub mod PlaceLemmas
pub mod Pieces
pub mod Parts
pub mod SendLaws
pub mod CompleteLaws
pub mod CommandLaws
