pub mod RasterLaws
pub mod BlockLaws
pub mod OutcomeLaws
mod DcLemmas
mod PairLemmas
mod ListedLemmas
pub mod LevelLaws
mod DcBack
mod PairsBack
mod FitLaws
pub mod BoundedLaws
mod DcWritten
mod CountLemmas
mod PlaceLemmas
mod WriteLemmas
pub mod BlockBack
pub mod LegalLaws
