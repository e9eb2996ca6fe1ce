pub mod Entities
pub mod Exchanged
pub mod Exists
pub mod Inclusion
pub mod InclusionLaws
pub mod Naming
pub mod Requests
pub mod Words
