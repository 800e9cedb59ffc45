pub mod Audit
pub mod StepLines
pub mod AuditedFile
pub mod Command
pub mod Laws
pub mod Steps
