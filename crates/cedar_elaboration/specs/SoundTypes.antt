-- What is sure of the common types of a bag once they are elaborated.
use Rattle.std.specs.Prelude.{Contains}
use Rattle.cedar_ast.specs.Words.{PlainName, Text, extension_types}
use Rattle.cedar_ast.specs.declared.extension.Extensions.{Extensions}
use Rattle.cedar_elaboration.specs.Scope.{extension_name}
use Rattle.cedar_schema_ast.specs.Words.{Expr, Reference}
use Rattle.cedar_schema_semantics.specs.Words.{Bag, HasOpenRecord, IsFault, MentionsExtension, Refers, ResolvesTo, common_type_cycle, declared_common, defined_names, duplicate_common_type}

-- no common type is declared twice or is on a cycle, none has an open record, and each extension
-- type in one is known and each reference resolves
pub record CommonTypesAreSound (bag : Bag) (extensions : Extensions) : Type 0 where
  pub once : (name : PlainName) → ¬ IsFault bag extensions (duplicate_common_type name)
  pub no_cycle : (name : PlainName) → ¬ IsFault bag extensions (common_type_cycle name)
  pub closed : (it : PlainName × Expr) → Contains (declared_common bag) it → ¬ HasOpenRecord it.1
  pub known : (it : PlainName × Expr) → Contains (declared_common bag) it → (word : Text)
      → MentionsExtension it.1 word
      → Contains (extension_types extensions) (extension_name word)
  pub resolves : (it : PlainName × Expr) → Contains (declared_common bag) it
      → (reference : Reference) → Refers it.1 reference
      → (name : PlainName) × ResolvesTo (defined_names bag extensions) reference name
