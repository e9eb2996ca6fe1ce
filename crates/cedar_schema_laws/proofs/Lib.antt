pub mod ActionEntityLaws
pub mod AdmitsLemmas
pub mod BuiltFrom
pub mod ChainDecisions
pub mod ChainInduction
pub mod CleanSchemas
pub mod ComeBack
pub mod CountLemmas
mod CountsConvertedBack
pub mod DeclaredKinds
pub mod ElaboratedTypes
mod EntriesConvertedBack
pub mod EnumeratedLemmas
pub mod EnvironmentLaws
mod ExpressionsConvertedBack
pub mod FaultsConvertedBack
pub mod KindLemmas
mod KindsConvertedBack
pub mod ListDecisions
pub mod ListedEntities
pub mod MeaningLemmas
pub mod MentionLemmas
pub mod MereLemmas
pub mod MovedBags
pub mod MovedLaws
pub mod MovedLemmas
mod NamesConvertedBack
pub mod OrderLaws
mod ParentsConvertedBack
pub mod PlacedLemmas
pub mod ReferenceDecisions
pub mod ResolutionLaws
pub mod SaidFaults
pub mod SaidLemmas
pub mod SameBagLaws
pub mod SameEntities
pub mod SchemaExistence
pub mod SchemaLaws
pub mod SchemasConvertedBack
pub mod SureBags
pub mod TypeDecisions
mod TypesConvertedBack
pub mod ValidLaws
