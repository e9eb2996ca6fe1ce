-- What is promised of common types that are elaborated, and why they are refused.
use Rattle.std.specs.Prelude.{List, Contains}
use Rattle.cedar_ast.specs.Words.{Chain, PlainName, Text, Twice}
use Rattle.cedar_elaboration.specs.Indices.{item_names}
use Rattle.cedar_elaboration.specs.Refusals.{IsExprFault}
use Rattle.cedar_elaboration.specs.Scope.{extension_name}
use Rattle.cedar_schema_ast.specs.Words.{Expr, Reference}
use Rattle.cedar_schema_semantics.specs.Words.{Defined, Fault, HasOpenRecord, MentionsExtension, Refers, RefersToCommon, ResolvesTo, common_type_cycle, duplicate_common_type, names_of, out_of_memory}

-- the expression has no open record, each of its extension types is among some, and each of its
-- references resolves
pub record IsSoundExpr (defined : Defined) (extensions : List PlainName)
    (expr : Expr) : Type 0 where
  pub closed : ¬ HasOpenRecord expr
  pub known : (word : Text) → MentionsExtension expr word
      → Contains extensions (extension_name word)
  pub resolved : (reference : Reference) → Refers expr reference
      → (name : PlainName) × ResolvesTo (names_of defined) reference name

-- each definition of a common type is sound
abbrev pub AreSound : Defined → List PlainName → Type 0
AreSound defined extensions =
    (item : PlainName × Expr) → Contains defined.common item → IsSoundExpr defined extensions item.1

-- why common types are refused: a name stands twice or is on a cycle, or some definition is
-- refused; or memory ran out
abbrev pub IsCommonFault : Defined → List PlainName → Fault → Type 0
IsCommonFault defined extensions (duplicate_common_type name) =
    Twice (item_names defined.common) name
IsCommonFault defined extensions (common_type_cycle name) = Chain (RefersToCommon defined) name name
IsCommonFault defined extensions out_of_memory = Unit {0}
IsCommonFault defined extensions fault =
    (item : PlainName × Expr) × Contains defined.common item
    × IsExprFault defined extensions item.1 fault
