pub mod ActionEquality
pub mod AncestorLemmas
pub mod EntityLemmas
pub mod EntityTypeEquality
mod EnvironmentLemmas
mod GivenLemmas
pub mod KeyLemmas
pub mod KindLemmas
pub mod ListedEntities
pub mod NamedTypes
pub mod SetLemmas
pub mod TypeSetLemmas
