pub mod Codings
pub mod Outcome
pub mod Command
pub mod Stands
pub mod Steps
pub mod Example
