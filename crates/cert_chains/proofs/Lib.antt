mod OptionLemmas
pub mod ReferenceLemmas
pub mod StreamLemmas
pub mod ContextLemmas
mod FlagLemmas
pub mod FoundLemmas
pub mod LinkLemmas
mod ChainLemmas
pub mod OrderLemmas
mod SourceLemmas
mod UseLemmas
mod StepLemmas
mod StepLaws
pub mod PlaceLemmas
mod BackLemmas
mod KeptLemmas
