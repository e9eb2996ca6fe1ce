-- Parts of values that aren't of the types wanted there.
use Rattle.std.specs.BTreeMap.{BTreeMap}
use Rattle.std.specs.Prelude.{◌≡◌, ℕ, zero, suc, Bool, true, List, [], ◌∷◌, Option, Some, None, Contains, map, string_bytes}
use Rattle.std.specs.declared.alloc.Global.{Global}
use Rattle.std.specs.declared.string.String.{String}
use Rattle.cedar_ast.specs.Words.{Entries, EntryFits, Gives, IsUnknown, NamesListed, Text, Tree, Trees, call_value, entry_at, entry_names, map_value, no_tree, set_value, tree}
use Rattle.cedar_ast.specs.declared.extension.Extensions.{Extensions}
use Rattle.cedar_conformance.specs.Plain.{PlainFault, PlainKind, PlainStep, attribute_step, element_step, missing_attribute, unexpected_attribute, unknown_function, wrong_type}
use Rattle.cedar_type_rules.specs.Words.{Fields, Has, HasField, HasFieldsBy, MayHave, Ty, extension_of, field_names, is_open, record_of, set_of}
use Rattle.cedar_type_rules.specs.declared.open_tag.OpenTag.{OpenTag}
use Rattle.cedar_type_rules.specs.declared.open_tag.OpenTag.TheVariants.{ClosedAttributes}

-- the value at an index, if there is one
abbrev pub tree_at : ℕ → Trees → Option Tree
tree_at index no_tree = None
tree_at zero (tree first rest) = Some first
tree_at (suc index) (tree first rest) = tree_at index rest

-- steps lead down a value to a part of it
abbrev pub LeadsTo : List PlainStep → Tree → Tree → Type 0
LeadsTo [] value part = value ≡ part
LeadsTo (element_step index ∷ steps) (set_value values) part =
    (value : Tree) × (tree_at index values ≡ Some value) × LeadsTo steps value part
LeadsTo (attribute_step name ∷ steps) (map_value values) part =
    (value : Tree) × (entry_at name values ≡ Some value) × LeadsTo steps value part
LeadsTo _ _ _ = ⊥

-- at the end of steps down a type a type is wanted
abbrev pub IsWantedAt : List PlainStep → Ty → Ty → Type 0
IsWantedAt [] ty wanted = ty ≡ wanted
IsWantedAt (element_step index ∷ steps) (set_of ty) wanted = IsWantedAt steps ty wanted
IsWantedAt (attribute_step name ∷ steps) (record_of fields openness) wanted =
    (required : Bool) × (ty : Ty) × HasField fields name required ty × IsWantedAt steps ty wanted
IsWantedAt _ _ _ = ⊥

-- a value and a type have parts that are held against each other: both are sets, or both records
abbrev pub HaveParts : Tree → Ty → Type 0
HaveParts (set_value values) (set_of ty) = Unit {0}
HaveParts (map_value values) (record_of fields openness) = Unit {0}
HaveParts _ _ = ⊥

-- a part of a value isn't of the type that is wanted there, by itself
abbrev pub IsMismatch : Extensions → Tree → Ty → PlainKind → Type 0
IsMismatch extensions part wanted (wrong_type ty) =
    (ty ≡ wanted) × (¬ HaveParts part wanted) × (¬ MayHave extensions part wanted)
IsMismatch extensions (map_value values) (record_of fields openness) (missing_attribute name) =
    ((ty : Ty) × HasField fields name true ty) × (entry_at name values ≡ None)
IsMismatch extensions (map_value values) (record_of fields openness) (unexpected_attribute name) =
    Contains (entry_names values) name × (openness ≡ ClosedAttributes)
    × ¬ Contains (field_names fields) name
IsMismatch extensions (call_value function args) (extension_of name) (unknown_function unknown) =
    (function ≡ unknown) × IsUnknown extensions unknown
IsMismatch _ _ _ _ = ⊥

-- a fault is true of a value that is held against a type: its steps lead to a part that isn't of
-- the type wanted there
pub record IsTypeFault (extensions : Extensions) (value : Tree) (ty : Ty) (fault : PlainFault)
    : Type 0 where
  pub part : Tree
  pub wanted : Ty
  pub leads : LeadsTo fault.steps value part
  pub wants : IsWantedAt fault.steps ty wanted
  pub mismatch : IsMismatch extensions part wanted fault.kind

-- what is found of a value: that it has the type, or a fault that is true of it
abbrev pub IsTypeAnswer : Extensions → Tree → Ty → Option PlainFault → Type 0
IsTypeAnswer extensions value ty None = Has extensions value ty
IsTypeAnswer extensions value ty (Some fault) = IsTypeFault extensions value ty fault

-- the keys of a map
abbrev pub key_texts : {V : Type 0} → BTreeMap (String Global) V → List Text
key_texts values = map (λ entry. string_bytes entry.0) values.entries

-- what is found of the names of a record: that all are listed that have to be, or one that isn't
abbrev pub IsNamesAnswer : Entries → Fields → OpenTag → Option PlainFault → Type 0
IsNamesAnswer values fields openness None =
    NamesListed (is_open openness) (entry_names values) (field_names fields)
IsNamesAnswer values fields openness (Some fault) =
    (extensions : Extensions)
    → IsTypeFault extensions (map_value values) (record_of fields openness) fault

-- what is found of one attribute of a record, given the value there: that it is as it has to be, or
-- a fault of each such record
abbrev pub IsEntryAnswer : Extensions → Text → Bool × Ty → Option Tree → Option PlainFault → Type 0
IsEntryAnswer extensions name attribute value None =
    EntryFits (λ value. Has extensions value attribute.1) attribute.0 value
IsEntryAnswer extensions name attribute value (Some fault) =
    (values : Entries) (fields : Fields) (openness : OpenTag) → entry_at name values ≡ value
    → HasField fields name attribute.0 attribute.1
    → IsTypeFault extensions (map_value values) (record_of fields openness) fault

-- what is found of the listed attributes of a record: that all are as they have to be, or a fault
abbrev pub IsFieldsAnswer : Extensions → Entries → Fields → Option PlainFault → Type 0
IsFieldsAnswer extensions values fields None = HasFieldsBy (Gives extensions) values fields
IsFieldsAnswer extensions values fields (Some fault) =
    (openness : OpenTag)
    → IsTypeFault extensions (map_value values) (record_of fields openness) fault
