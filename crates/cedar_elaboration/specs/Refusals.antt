-- Why a type isn't elaborated.
use Rattle.std.specs.Prelude.{◌≢◌, List, [], Contains}
use Rattle.cedar_ast.specs.PlainName.{PlainName, IsReserved, IsUnqualified}
use Rattle.cedar_elaboration.specs.Scope.{Covers, extensions_in_scope}
use Rattle.cedar_elaboration.specs.declared.type_scope.TypeScope.{TypeScope}
use Rattle.cedar_schema_ast.specs.Words.{Expr, Reference}
use Rattle.cedar_schema_semantics.specs.Words.{Defined, Fault, HasOpenRecord, IsCommon, IsEntity, IsUnresolved, MentionsExtension, Refers, ResolvesTo, names_of, open_record, out_of_memory, reserved_name, type_not_defined, unknown_extension_type}

-- the reference is to an entity type of that name, and to no common type, and the name is reserved,
-- so that no type of the validator may hold it
pub record IsReservedEntity (defined : Defined) (reference : Reference)
    (name : PlainName) : Type 0 where
  pub resolves : ResolvesTo (names_of defined) reference name
  pub is_entity : IsEntity (names_of defined) reference.kind name
  pub no_common : (body : Expr) → ¬ IsCommon defined reference.kind name body
  pub reserved : IsReserved name

-- the refusal of an expression: an open record stands in it, or references that nothing resolves,
-- or an extension type that isn't known, or a reference to a reserved entity type; or memory ran
-- out
abbrev pub IsExprFault : Defined → List PlainName → Expr → Fault → Type 0
IsExprFault defined extensions expr open_record = HasOpenRecord expr
IsExprFault defined extensions expr (type_not_defined references) =
    (references ≢ [])
    × ((reference : Reference) → Contains references reference → Refers expr reference
    × IsUnresolved (names_of defined) reference)
IsExprFault defined extensions expr (unknown_extension_type name) =
    MentionsExtension expr name.base × IsUnqualified name × ¬ Contains extensions name
IsExprFault defined extensions expr (reserved_name name) =
    (reference : Reference) × Refers expr reference × IsReservedEntity defined reference name
IsExprFault defined extensions expr out_of_memory = Unit {0}
IsExprFault defined extensions expr _ = ⊥

-- whatever is defined, if enough of it is known for the expression, the fault is a refusal of this
pub record IsElaborationFault (scope : TypeScope) (expr : Expr) (fault : Fault) : Type 0 where
  pub each : (defined : Defined) → Covers defined scope expr
      → IsExprFault defined (extensions_in_scope scope) expr fault
