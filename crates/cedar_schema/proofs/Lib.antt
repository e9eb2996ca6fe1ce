mod AllYielded
mod BuiltNames
mod BuiltOver
mod ClosedTwice
mod CollectedBags
pub mod Comparisons
mod DeclaredParts
pub mod InOrder
mod Itself
mod KnownBags
mod KnownOfBuilt
pub mod Lookups
mod Mapped
pub mod NamespaceLemmas
mod ReadySteps
pub mod SchemaEquality
mod SchemaKeys
mod SchemaNames
pub mod ShownLemmas
mod SurePieces
mod WrittenSoFar
