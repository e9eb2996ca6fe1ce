mod Agreeing
mod Checking
pub mod ClosedAgain
mod CopiedParts
pub mod CopyLemmas
mod Graphs
mod HierarchyLemmas
pub mod Keyed
mod KnownLemmas
mod LastLemmas
mod ListedEntries
mod MentionLemmas
pub mod Pairwise
mod RequestTypeLemmas
mod Results
mod Shadowed
mod TypeSets
mod Valid
mod Validation
mod Walk
