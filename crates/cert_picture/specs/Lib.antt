pub mod Records
pub mod Lent
pub mod FrameFileOf
pub mod RecordLaws
pub mod Certifying
pub mod Steps
