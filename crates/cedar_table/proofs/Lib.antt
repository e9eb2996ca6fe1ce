pub mod ColumnLemmas
mod CopiedLemmas
mod HintLemmas
mod SearchLemmas
