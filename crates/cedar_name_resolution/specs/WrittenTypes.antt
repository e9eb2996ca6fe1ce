-- Types by the names that are written in them, each with the namespace that these are written in.
use Rattle.std.specs.Option.{option_map}
use Rattle.std.specs.Prelude.{List, map, Option}
use Rattle.cedar_ast.specs.Words.{PlainName, name_of}
use Rattle.cedar_ast.specs.declared.internal_name.InternalName.{InternalName}
use Rattle.cedar_name_resolution.specs.declared.written.Written.{Written}
use Rattle.cedar_schema_ast.specs.Words.{Expr, Reference, type_expr}
use Rattle.cedar_schema_ast.specs.declared.json_schema.reference_type.ReferenceType.{ReferenceType}
use Rattle.cedar_schema_ast.specs.declared.json_schema.type_of.Type.{«Type»}

-- the namespace that the names of a declaration are written in, None being the empty one
abbrev pub written_namespace : {D : Type 0} → Written D → Option PlainName
written_namespace it = option_map name_of it.namespace

-- over names of some form, where it is given what a name refers to in a namespace at a place of
-- each kind
module _ (N : Type 0) (refer : Option PlainName → ReferenceType → N → Reference) where
  -- what a type stands for
  abbrev pub written_expr : Written («Type» N) → Expr
  written_expr it = type_expr N (refer (written_namespace it)) it.declared

  -- what some common types stand for: each full name with the expression that it is defined as
  abbrev pub written_common : List (InternalName × Written («Type» N)) → List (PlainName × Expr)
  written_common = map (λ it. (name_of it.0, written_expr it.1))
