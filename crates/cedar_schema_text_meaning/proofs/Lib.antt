pub mod AnsweredAlike
mod BuiltInsWritten
mod DefinedNames
mod FirstDeclared
mod FormsLike
mod ReferencesMean
mod SameMeaning
mod SameNames
mod TextLikeness
mod UnknownExtensions
mod WritableFragments
mod WrittenReferences
