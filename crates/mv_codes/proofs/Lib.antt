pub mod TableLaws
pub mod TableFacts
pub mod RunFacts
pub mod LookUpLaws
pub mod LookUpFacts
mod FirstLemmas
pub mod SpelledLaws
pub mod PlaceFacts
mod LevelFacts
pub mod WrittenLaws
pub mod BoundedLaws
