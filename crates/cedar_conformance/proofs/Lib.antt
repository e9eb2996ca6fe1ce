pub mod MismatchLemmas
pub mod NameLemmas
pub mod FaultLaws
pub mod EntryWalk
pub mod Outcomes
pub mod NamingLaws
pub mod RequestLaws
