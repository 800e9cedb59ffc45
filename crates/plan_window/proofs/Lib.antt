mod ListLemmas
mod OrderLemmas
mod NextLemmas
mod StepLemmas
mod PlanLemmas
mod GivenLemmas
mod NumberLemmas
mod AddedLemmas
pub mod ReferenceLemmas
pub mod GroupLemmas
pub mod FitLemmas
pub mod ShownLemmas
pub mod BeginLemmas
