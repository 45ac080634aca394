pub mod HistoryLemmas
pub mod PlaceLemmas
mod ViewLemmas
mod StepLemmas
mod GrowthLemmas
mod JoinLemmas
mod OpeningLemmas
mod ClosingLemmas
pub mod PairLemmas
mod NumberLemmas
pub mod ReturnLemmas
pub mod EverySeatLemmas
