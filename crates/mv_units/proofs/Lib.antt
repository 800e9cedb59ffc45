mod CutterLaws
pub mod CuttingLaws
mod DecidedLaws
mod FoundLaws
mod FoundWalk
pub mod JudgementLaws
pub mod NextLaws
mod GapBounds
mod GapCutter
mod GapFed
mod GapLaws
mod GapRoom
mod GapWalk
mod OpenElement
mod Places
mod ProgressLaws
pub mod ShapeLaws
mod StageLaws
mod UnitBounds
pub mod UnitTakes
mod WalkLaws
mod WalkSteps
pub mod WrittenLaws
mod ZeroLaws
pub mod RoomLaws
