pub mod Summaries
pub mod Right
pub mod Lent
pub mod Room
pub mod Lending
pub mod Steps
