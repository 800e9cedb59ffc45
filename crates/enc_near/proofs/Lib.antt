pub mod BlockLemmas
pub mod SimpleLemmas
pub mod PictureLemmas
pub mod PlanLemmas
pub mod FreshLemmas
pub mod GuidedLemmas
pub mod Examples
