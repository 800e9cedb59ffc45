pub mod Glue
pub mod Joined
