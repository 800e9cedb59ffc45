pub mod FrameFile
pub mod Lines
pub mod Header
pub mod Frames
pub mod Reading
pub mod Behind
pub mod Steps
