use Rattle.std.specs.Prelude.{List, map, Contains}
use Rattle.cedar_ast.specs.Words.{PlainName, PlainUid}
use Rattle.cedar_schema_ast.specs.Expr.{Expr}
use Rattle.cedar_schema_ast.specs.declared.json_schema.reference_type.ReferenceType.{ReferenceType}
use Rattle.cedar_schema_semantics.specs.Names.{Names, MayNameCommon}

-- what is defined: the common types with their definitions, the entity types, and the actions
pub record Defined : Type 0 where
  pub common : List (PlainName × Expr)
  pub entities : List PlainName
  pub actions : List PlainUid

-- the names of what is defined
abbrev pub names_of : Defined → Names
names_of defined = record {
  common = map (λ it. it.0) defined.common;
  entities = defined.entities;
  actions = defined.actions;
}

-- the name is that of a common type which a reference of the kind may name, and this is its
-- definition
abbrev pub IsCommon : Defined → ReferenceType → PlainName → Expr → Type 0
IsCommon defined kind name body = MayNameCommon kind × Contains defined.common (name, body)
