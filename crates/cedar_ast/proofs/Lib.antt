pub mod Basics
pub mod Chains
pub mod Collected
mod EntryLemmas
pub mod EscapeReading
pub mod FittingNames
pub mod IdStops
pub mod Ids
pub mod Inclusion
pub mod LeadingBytes
pub mod Lists
pub mod Lookups
pub mod NameReading
pub mod Names
pub mod Ordered
pub mod PlainNames
mod QuickInputs
pub mod ShownLemmas
pub mod Texts
pub mod TextsOfNames
pub mod TextsOfUids
pub mod TreeLemmas
pub mod TurnLemmas
pub mod UidReading
pub mod Uids
pub mod ValueCopies
pub mod ValueLemmas
