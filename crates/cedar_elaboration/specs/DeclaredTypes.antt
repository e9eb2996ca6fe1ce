-- Types that are declared, of a bag, and what its common types are elaborated as.
use Rattle.std.specs.Prelude.{◌≡◌, List, ◌++◌, map, Contains}
use Rattle.cedar_ast.specs.Words.{IsReserved, PlainName, TypeNamesFit, extension_types}
use Rattle.cedar_ast.specs.declared.extension.Extensions.{Extensions}
use Rattle.cedar_elaboration.specs.Scope.{HoldsElaborated}
use Rattle.cedar_name_resolution.specs.Words.{HoldsJust}
use Rattle.cedar_schema_ast.specs.Expr.{Expr}
use Rattle.cedar_schema_semantics.specs.Bag.{Bag, declared_common, defined_names, aliases, built_ins, definitions}
use Rattle.cedar_schema_semantics.specs.Names.{Names}
use Rattle.cedar_type_rules.specs.Ty.{Ty}

-- the common types are those that the bag declares, and then the built-in ones and its aliases; the
-- names are those of what it defines, and no entity type among them is reserved; and names of
-- extension types fit
pub record AreTypesOf (bag : Bag) (extensions : Extensions)
    (common_types built_in_types : List (PlainName × Expr))
    (names : Names) : Type 0 where
  pub common : common_types ≡ declared_common bag
  pub built_in : built_in_types ≡ built_ins extensions ++ aliases bag extensions
  pub held : HoldsJust names (defined_names bag extensions)
  pub unreserved : (name : PlainName) → Contains (definitions bag extensions).entities name
      → ¬ IsReserved name
  pub fit : TypeNamesFit (extension_types extensions)

-- each common type that the bag defines stands among the types, and each of these is what the one
-- of its name is elaborated as
pub record AreElaborated (bag : Bag) (extensions : Extensions)
    (types : List (PlainName × Ty)) : Type 0 where
  pub each : (it : PlainName × Expr) → Contains (definitions bag extensions).common it
      → Contains (map (λ each. each.0) types) it.0
  pub elaborated : HoldsElaborated (definitions bag extensions) types
