pub mod Profile
pub mod Shape
pub mod Steps
pub mod Table
pub mod Units
pub mod Walk
pub mod Written
