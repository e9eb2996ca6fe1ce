pub mod AliasLemmas
pub mod CommonFaults
mod ElaborationLemmas
pub mod Entries
pub mod IndexLemmas
pub mod OrderLemmas
mod PrimitiveLemmas
pub mod RecordLemmas
mod ReferringLemmas
pub mod Results
pub mod ScopeLemmas
