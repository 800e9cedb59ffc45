pub mod Basis
pub mod Transform
pub mod Lines
pub mod Steps
pub mod Back
pub mod Near
