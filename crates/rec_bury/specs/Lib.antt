pub mod FrameBytes
pub mod Buried
pub mod Exhumed
pub mod Seals
pub mod Laws
pub mod Steps
