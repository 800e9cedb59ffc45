mod RangeLaws
mod HeadLaws
mod HistoryLaws
mod HeldLaws
mod LinkLaws
mod FoundLaws
