mod AllLemmas
pub mod AnyLemmas
pub mod BorrowedLemmas
mod DeclaredLemmas
mod JoinedLemmas
pub mod KnownLemmas
mod LeafLemmas
pub mod LookupLemmas
pub mod NameLemmas
mod NotLemmas
pub mod RoleLemmas
pub mod SelectedLemmas
