-- The words of clauses, from one place.
pub use Rattle.cedar_schema_tokens.specs.Refused.{HasNoTokens, IsRefused}
pub use Rattle.cedar_schema_tokens.specs.Spelled.{AreSpelled, Ends, IsSpelling, Spelled, spelled_of}
pub use Rattle.cedar_schema_tokens.specs.Written.{spelling}
pub use Rattle.cedar_schema_tokens.specs.declared.spelled.SpelledKind.{SpelledKind}
pub use Rattle.cedar_schema_tokens.specs.declared.token.Symbol.{Symbol}
