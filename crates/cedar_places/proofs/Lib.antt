pub mod InTurn
mod MarkLaws
mod PlaceLaws
pub mod TableLemmas
pub mod TypeMarkLemmas
