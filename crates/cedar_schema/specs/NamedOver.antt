use Rattle.std.specs.Prelude.{◌≡◌, ◌++◌, List}
use Rattle.cedar_ast.specs.Words.{PlainName, PlainUid, TypeNamesFit, extension_types}
use Rattle.cedar_ast.specs.declared.extension.Extensions.{Extensions}
use Rattle.cedar_name_resolution.specs.Words.{HoldsJust}
use Rattle.cedar_schema_ast.specs.Words.{Expr}
use Rattle.cedar_schema_semantics.specs.Words.{Bag, IsFault, Names, action_shadowing, aliases, built_ins, defined_names, type_shadowing}

-- the names are those that the bag defines, nothing in it shadows another, these are the built-in
-- types and its aliases, and names of extension types fit
pub record IsNamedOver (bag : Bag) (given : Extensions) (held : Names)
    (built_in_types : List (PlainName × Expr)) : Type 0 where
  pub names : HoldsJust held (defined_names bag given)
  pub types_shadow : (plain qualified : PlainName)
      → ¬ IsFault bag given (type_shadowing plain qualified)
  pub actions_shadow : (plain qualified : PlainUid)
      → ¬ IsFault bag given (action_shadowing plain qualified)
  pub built_in : built_in_types ≡ built_ins given ++ aliases bag given
  pub fit : TypeNamesFit (extension_types given)
