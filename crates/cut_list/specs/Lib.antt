pub mod List
pub mod Cut
pub mod Command
pub mod Steps
