pub mod Among
pub mod SoFar
pub mod RepeatLemmas
pub mod NameLemmas
pub mod TypeLemmas
pub mod FragmentLemmas
pub mod TextLemmas
