mod JoinedLaws
mod PartLaws
mod ZeroLemmas
