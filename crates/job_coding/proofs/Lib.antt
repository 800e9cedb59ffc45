pub mod Growth
pub mod Turns
pub mod Exits
pub mod FrameLemmas
pub mod RecordLemmas
pub mod CoderLemmas
pub mod Promises
