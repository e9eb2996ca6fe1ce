use Rattle.std.specs.Prelude.{◌≡◌, Bool, true, false, List, ◌∷◌, Option, Some, None}
use Rattle.cedar_ast.specs.CoreSchemaType.{argument_types, result_type}
use Rattle.cedar_ast.specs.CoreTy.{CoreTy, core_truth, core_long, core_text, core_set, core_empty_set, core_record, core_entity, core_extension, CoreFields, core_end, core_field, core_names}
use Rattle.cedar_ast.specs.Extensions.{function_named}
use Rattle.cedar_ast.specs.Lists.{Included}
use Rattle.cedar_ast.specs.PlainName.{PlainName}
use Rattle.cedar_ast.specs.Text.{Text}
use Rattle.cedar_ast.specs.Tree.{Tree, truth_value, number_value, text_value, uid_value, set_value, map_value, call_value, Trees, no_tree, tree, Entries, entry_at, entry_names, EachTree}
use Rattle.cedar_ast.specs.declared.extension.ExtensionFunction.{ExtensionFunction}
use Rattle.cedar_ast.specs.declared.extension.Extensions.{Extensions}

-- no function has the name
abbrev pub IsUnknown : Extensions → PlainName → Type 0
IsUnknown extensions function = function_named extensions function ≡ None

-- a function of that name has that signature
abbrev pub IsKnown : Extensions → PlainName → ExtensionFunction → Type 0
IsKnown extensions name function = function_named extensions name ≡ Some function

-- a function of that name returns values of that extension type
abbrev pub Returns : Extensions → PlainName → PlainName → Type 0
Returns extensions name ty =
    (function : ExtensionFunction) × IsKnown extensions name function
    × (result_type function ≡ Some (core_extension ty))

-- an attribute that is there is as it has to be, and a missing one isn't required
abbrev pub EntryFits : (Tree → Type 0) → Bool → Option Tree → Type 0
EntryFits P required None = required ≡ false
EntryFits P required (Some value) = P value

-- a record has no attribute that isn't listed, but where it is open
abbrev pub NamesListed : Bool → List Text → List Text → Type 0
NamesListed true names listed = Unit {0}
NamesListed false names listed = Included names listed

abbrev mutual
  -- an argument fits a core type; of a call only the function's result is looked at
  pub Fits : Extensions → Tree → CoreTy → Type 0
  Fits extensions (truth_value value) core_truth = Unit {0}
  Fits extensions (number_value value) core_long = Unit {0}
  Fits extensions (text_value value) core_text = Unit {0}
  Fits extensions (set_value values) core_empty_set = values ≡ no_tree
  Fits extensions (set_value values) (core_set ty) =
      EachTree (λ value. Fits extensions value ty) values
  Fits extensions (map_value values) (core_record fields open_attrs) =
      NamesListed open_attrs (entry_names values) (core_names fields)
      × FieldsFit extensions values fields
  Fits extensions (uid_value uid) (core_entity ty) = uid.ty ≡ ty
  Fits extensions (call_value function args) (core_extension ty) = Returns extensions function ty
  Fits _ _ _ = ⊥

  -- the listed attributes fit their types where they are there, and those that are required are
  -- there
  pub FieldsFit : Extensions → Entries → CoreFields → Type 0
  FieldsFit extensions values core_end = Unit {0}
  FieldsFit extensions values (core_field name required ty rest) =
      EntryFits (λ value. Fits extensions value ty) required (entry_at name values)
      × FieldsFit extensions values rest

-- the arguments fit the types pairwise, as far as both lists go
abbrev pub ArgumentsFit : Extensions → Trees → List CoreTy → Type 0
ArgumentsFit extensions (tree value values) (ty ∷ types) =
    Fits extensions value ty × ArgumentsFit extensions values types
ArgumentsFit _ _ _ = Unit {0}

-- a call gives a value of that extension type: a function of that name returns one, and the
-- arguments fit
abbrev pub Gives : Extensions → PlainName → Trees → PlainName → Type 0
Gives extensions name args ty =
    (function : ExtensionFunction)
    × IsKnown extensions name function
    × (result_type function ≡ Some (core_extension ty))
    × ArgumentsFit extensions args (argument_types function)
