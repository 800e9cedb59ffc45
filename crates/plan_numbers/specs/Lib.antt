pub mod Numbered
pub mod Stands
