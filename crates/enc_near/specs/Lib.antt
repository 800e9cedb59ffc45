pub mod Blocks
pub mod Pictures
pub mod Frames
