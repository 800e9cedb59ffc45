pub mod Words
pub mod Commands
pub mod Outcomes
pub mod Said
