use Rattle.std.proofs.Common.{◌≡◌, Bool, List, [], ◌∷◌, map, refl, sym, ap, subst, ◌∙◌, string_bytes, Global}
use Rattle.std.proofs.lemmas.Simd.{map-map}
use Rattle.std.specs.List.Sorted.{IsStrictlySortedBy}
use Rattle.std.specs.declared.string.String.{String}
use Rattle.cedar_ast.specs.Text.{Text, text_cmp}
use Rattle.cedar_name_map.specs.ByName.{entry_texts}
use Rattle.cedar_type_rules.specs.Words.{Fields, IsSortedByName, Ty, field_names, fields_from}
use Rattle.cedar_types.specs.Attributes.{plain_attributes}
use Rattle.cedar_types.specs.Meaning.{ty_of, attribute_of, fields_of, type_step, attribute_step, attributes_step}
use Rattle.cedar_types.specs.declared.attributes.AttributeType.{AttributeType}
use Rattle.cedar_types.specs.declared.attributes.Attributes.{Attributes, out-Attributes, roll-Attributes, fold_out-Attributes, fold-roll-Attributes}
use Rattle.cedar_types.specs.declared.types.Type.{«Type», map-Type}
use Rattle.cedar_types.specs.declared.types.Type.TheOpen as layer

-- what one layer stands for
abbrev pub folded_layer : layer.Type-F «Type» AttributeType Attributes → Ty
folded_layer it = type_step (map-Type «Type» AttributeType Attributes Ty
    (Bool × Ty) Fields ty_of attribute_of fields_of it)

-- what an entry stands for
abbrev pub plain_entry : String Global × AttributeType → Text × (Bool × Ty)
plain_entry entry = (string_bytes entry.0, attribute_of entry.1)

-- attributes that are put together stand for what their entries do
pub fields_of-rolled : (x : layer.Attributes-F «Type» AttributeType Attributes)
    → fields_of (roll-Attributes x)
    ≡ fields_from (map (λ entry. (
      string_bytes entry.0,
      attribute_of entry.1,
    )) x.attrs.value.entries.items)
fields_of-rolled x =
    fold-roll-Attributes Ty (Bool × Ty) Fields type_step attribute_step attributes_step x
    ∙ ap fields_from (map-map _ _ _)

-- the pairs of a name and an attribute
abbrev pub pairs_of : Attributes → List (String Global × AttributeType)
pairs_of all = (out-Attributes all).attrs.value.entries.items

-- the attributes stand for what their pairs do
pub fields_of-pairs : (all : Attributes)
    → fields_of all ≡ fields_from (plain_attributes (pairs_of all))
fields_of-pairs all =
    fold_out-Attributes Ty (Bool × Ty) Fields type_step attribute_step attributes_step all
    ∙ ap fields_from (map-map _ _ _)

-- the names of the attributes are those of the pairs
pub field_names-entries : (entries : List (String Global × AttributeType))
    → field_names (fields_from (plain_attributes entries)) ≡ entry_texts entries
field_names-entries [] = refl
field_names-entries (entry ∷ rest) =
    ap (λ names. string_bytes entry.0 ∷ names) (field_names-entries rest)

-- the names of what attributes stand for are those of their pairs
pub field_names-pairs : (all : Attributes)
    → field_names (fields_of all) ≡ entry_texts (pairs_of all)
field_names-pairs all = ap field_names (fields_of-pairs all) ∙ field_names-entries (pairs_of all)

-- the names of any attributes are sorted
pub IsSortedByName-fields : (all : Attributes) → IsSortedByName (fields_of all)
IsSortedByName-fields all = subst (IsStrictlySortedBy text_cmp) (sym (field_names-pairs all))
    (out-Attributes all).attrs.value.sorted_by_name
