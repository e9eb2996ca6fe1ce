-- What is written of a type describes it.
use Rattle.std.proofs.Common.{◌≡◌, [], ◌∷◌, ◌++◌, Bool, true, false, cond, ◌||◌, Option, Some, None, option_map, option_and_then, codes, refl, ap, sym, subst, ◌∙◌, append_assoc, append-nil}
use Rattle.std.specs.BTreeMap.{insert_entry}
use Rattle.std.specs.List.Sorted.{IsStrictlySortedBy}
use Rattle.std.specs.Map.{keys_of}
use Rattle.std.specs.Str.{bytes_eq}
use Rattle.cedar_ast.proofs.Texts.{text_cmp-total}
use Rattle.cedar_json.proofs.NameLemmas.{spelled_name-text}
use Rattle.cedar_json.proofs.TypeLemmas.{attribute_read, attributes_of-member, attributes_of-none, type_of-with}
use Rattle.cedar_json.specs.TypeFormat.{attributes_of}
use Rattle.cedar_json_writer.proofs.WrittenOrder.{both_none, put-last, still_sorted}
use Rattle.cedar_json_writer.specs.Words.{Attributes, Common, CommonOrEntity, Entity, Expr, IsOfIdentifiers, OfAttribute, OfCommonType, OfType, PlainName, ReferenceType, SoundAttributes, SoundType, Text, annotations_fit, attribute_document, attribute_members, attribute_names, attribute_of, attributes_flaws, common_type_of, empty_record, extension_expr, flag_or, if_so, is_among, is_empty_record, is_unreserved, long_expr, members_from, name_text, named, record_expr, reference_flaws, reference_members, reference_text, reference_to, set_expr, shape_held, shape_in, spelled_name, text_cmp, text_expr, truth_expr, type_document, type_flaws, type_members, type_of, type_with, type_word, type_words}
use Rattle.cedar_schema_ast.specs.Expr.{Members as AttributeList, no_member as no_attribute, member as attribute}
use Rattle.json.specs.Find.{get, get_member, later_or}
use Rattle.json.specs.Json.{Json, boolean, Members, no_members, member}

-- what is written of a type describes it, wherever the type stands
record Reads (ty : Expr) : Type 0 where
  pub plain : type_with OfType (type_document ty) ≡ Some ty
  pub of_common : type_with OfCommonType (type_document ty) ≡ Some ty
  pub of_required : type_with OfAttribute (attribute_document true ty) ≡ Some ty
  pub of_optional : type_with OfAttribute (attribute_document false ty) ≡ Some ty

text_row : Reads text_expr
unfolding type_members
text_row = record { plain = refl; of_common = refl; of_required = refl; of_optional = refl }

long_row : Reads long_expr
unfolding type_members
long_row = record { plain = refl; of_common = refl; of_required = refl; of_optional = refl }

truth_row : Reads truth_expr
unfolding type_members
truth_row = record { plain = refl; of_common = refl; of_required = refl; of_optional = refl }

set_row : (element : Expr) → type_of (type_document element) ≡ Some element → Reads (set_expr element)
unfolding type_members
set_row element is =
    let made = ap (λ (o : Option Expr). option_map set_expr o) is in
    record { plain = made; of_common = made; of_required = made; of_optional = made }

record_row : (all : AttributeList) (additional : Bool) (read : Attributes) → attributes_of (attribute_members all) [] ≡ Some read
    → members_from read ≡ all → Reads (record_expr all additional)
unfolding type_members type_of
record_row all true read is same =
    let made = ap (λ (o : Option Attributes). option_and_then (λ each. Some (record_expr (members_from each) true)) o) is
    ∙ ap (λ (each : AttributeList). Some (record_expr each true)) same in
    record { plain = made; of_common = made; of_required = made; of_optional = made }
record_row all false read is same =
    let made = ap (λ (o : Option Attributes). option_and_then (λ each. Some (record_expr (members_from each) false)) o) is
    ∙ ap (λ (each : AttributeList). Some (record_expr each false)) same in
    record { plain = made; of_common = made; of_required = made; of_optional = made }

extension_row : (name : Text) → is_unreserved name ≡ true → Reads (extension_expr name)
unfolding type_members
extension_row name is =
    let made = ap (λ test. cond test (Some (extension_expr name)) None) is in
    record { plain = made; of_common = made; of_required = made; of_optional = made }

entity_row : (name : PlainName) → spelled_name (name_text name) ≡ Some name → Reads (named (reference_to None Entity name))
unfolding type_members
entity_row name is =
    let made = ap (λ (o : Option PlainName). option_map (λ it. named (reference_to None Entity it)) o) is in
    record { plain = made; of_common = made; of_required = made; of_optional = made }

either_row : (name : PlainName) → spelled_name (name_text name) ≡ Some name → Reads (named (reference_to None CommonOrEntity name))
unfolding type_members
either_row name is =
    let made = ap (λ (o : Option PlainName). option_map (λ it. named (reference_to None CommonOrEntity it)) o) is in
    record { plain = made; of_common = made; of_required = made; of_optional = made }

pub neither : (a b : Bool) → (a || b) ≡ false → (a ≡ false) × (b ≡ false)
neither true b e = absurd (cc)
neither false b e = (refl, e)

-- a text that is none of the words
record IsOther (text : Text) : Type 0 where
  pub is_text : bytes_eq text (codes "String") ≡ false
  pub is_long : bytes_eq text (codes "Long") ≡ false
  pub is_truth : bytes_eq text (codes "Boolean") ≡ false
  pub is_set : bytes_eq text (codes "Set") ≡ false
  pub is_record : bytes_eq text (codes "Record") ≡ false
  pub is_entity : bytes_eq text (codes "Entity") ≡ false
  pub is_either : bytes_eq text (codes "EntityOrCommon") ≡ false
  pub is_extension : bytes_eq text (codes "Extension") ≡ false

other : (text : Text) → is_among text type_words ≡ false → IsOther text
other text e =
    let a = neither (bytes_eq text (codes "String")) _ e in
    let b = neither (bytes_eq text (codes "Long")) _ a.1 in
    let c = neither (bytes_eq text (codes "Boolean")) _ b.1 in
    let d = neither (bytes_eq text (codes "Set")) _ c.1 in
    let f = neither (bytes_eq text (codes "Record")) _ d.1 in
    let g = neither (bytes_eq text (codes "Entity")) _ f.1 in
    let h = neither (bytes_eq text (codes "EntityOrCommon")) _ g.1 in
    let i = neither (bytes_eq text (codes "Extension")) _ h.1 in
    record {
      is_text = a.0;
      is_long = b.0;
      is_truth = c.0;
      is_set = d.0;
      is_record = f.0;
      is_entity = g.0;
      is_either = h.0;
      is_extension = i.0;
    }

no_word : (text : Text) (test : Bool) → cond test (type_word text ∷ []) [] ≡ [] → test ≡ false
no_word text true e = absurd (cc)
no_word text false e = refl

common_row : (name : PlainName) → spelled_name (name_text name) ≡ Some name → IsOther (name_text name)
    → Reads (named (reference_to None Common name))
unfolding type_members
common_row name is o =
    let made = ap (λ (found : Option PlainName). option_map (λ it. named (reference_to None Common it)) found) is in
    record {
      plain = rw (o.is_text, o.is_long, o.is_truth, o.is_set, o.is_record, o.is_entity, o.is_either, o.is_extension) made;
      of_common = rw (o.is_text, o.is_long, o.is_truth, o.is_set, o.is_record, o.is_entity, o.is_either, o.is_extension) made;
      of_required = rw (o.is_text, o.is_long, o.is_truth, o.is_set, o.is_record, o.is_entity, o.is_either, o.is_extension) made;
      of_optional = rw (o.is_text, o.is_long, o.is_truth, o.is_set, o.is_record, o.is_entity, o.is_either, o.is_extension) made;
    }

named_row : (kind : ReferenceType) (name : PlainName) → IsOfIdentifiers name → reference_flaws kind (name_text name) ≡ []
    → Reads (named (reference_to None kind name))
named_row Common name ids flawless =
    common_row name (spelled_name-text name ids)
    (other (name_text name) (no_word (name_text name) (is_among (name_text name) type_words) flawless))
named_row Entity name ids flawless = entity_row name (spelled_name-text name ids)
named_row CommonOrEntity name ids flawless = either_row name (spelled_name-text name ids)

-- attributes as a list
abbrev listed : AttributeList → Attributes
listed no_attribute = []
listed (attribute name required ty rest) = (name, (required, ty)) ∷ listed rest

members_from-listed : (all : AttributeList) → members_from (listed all) ≡ all
members_from-listed no_attribute = refl
members_from-listed (attribute name required ty rest) = ap (attribute name required ty) (members_from-listed rest)

-- the fields of a type are none of those that an attribute has besides
abbrev FieldsApart : Expr → Members → Type 0
FieldsApart ty rest =
    (get_member (codes "required") (type_members ty rest) ≡ get_member (codes "required") rest)
    × (get_member (codes "annotations") (type_members ty rest) ≡ get_member (codes "annotations") rest)

later_none : (o : Option Json) → later_or o None ≡ o
later_none None = refl
later_none (Some j) = refl

fields_apart : (ty : Expr) (rest : Members) → FieldsApart ty rest
unfolding type_members
fields_apart text_expr rest = (later_none _, later_none _)
fields_apart long_expr rest = (later_none _, later_none _)
fields_apart truth_expr rest = (later_none _, later_none _)
fields_apart (set_expr element) rest = (later_none _ ∙ later_none _, later_none _ ∙ later_none _)
fields_apart (record_expr all true) rest =
    (later_none _ ∙ later_none _ ∙ later_none _, later_none _ ∙ later_none _ ∙ later_none _)
fields_apart (record_expr all false) rest = (later_none _ ∙ later_none _, later_none _ ∙ later_none _)
fields_apart (named reference) rest = by reference.kind
  where
    by : (kind : ReferenceType)
        → (get_member (codes "required") (reference_members kind (reference_text reference) rest) ≡ get_member (codes "required") rest)
        × (get_member (codes "annotations") (reference_members kind (reference_text reference) rest) ≡ get_member (codes "annotations") rest)
    by Common = (later_none _, later_none _)
    by Entity = (later_none _ ∙ later_none _, later_none _ ∙ later_none _)
    by CommonOrEntity = (later_none _ ∙ later_none _, later_none _ ∙ later_none _)
fields_apart (extension_expr name) rest = (later_none _ ∙ later_none _, later_none _ ∙ later_none _)

flag_back : (required : Bool) (ty : Expr) → flag_or true (get (codes "required") (attribute_document required ty)) ≡ Some required
flag_back true ty = ap (flag_or true) (fields_apart ty no_members).0
flag_back false ty = ap (flag_or true) (fields_apart ty (member (codes "required") (boolean false) no_members)).0

fits_back : (required : Bool) (ty : Expr) → annotations_fit (get (codes "annotations") (attribute_document required ty)) ≡ true
fits_back true ty = ap annotations_fit (fields_apart ty no_members).1
fits_back false ty = ap annotations_fit (fields_apart ty (member (codes "required") (boolean false) no_members)).1

-- the attribute that is written is the one that is read
attribute_back : (required : Bool) (ty : Expr) → Reads ty → attribute_of (attribute_document required ty) ≡ Some (required, ty)
attribute_back required ty is = attribute_read (attribute_document required ty) required ty (flag_back required ty) (fits_back required ty) (by required)
  where
    by : (flag : Bool) → type_with OfAttribute (attribute_document flag ty) ≡ Some ty
    by true = is.of_required
    by false = is.of_optional

mutual
  unfolding type_of type_members SoundType type_flaws IsStrictlySortedBy

  reads : (ty : Expr) → SoundType ty → type_flaws ty ≡ [] → Reads ty
  reads text_expr sound flawless = text_row
  reads long_expr sound flawless = long_row
  reads truth_expr sound flawless = truth_row
  reads (set_expr element) sound flawless =
      set_row element (type_of-with (type_document element) ∙ (reads element sound flawless).plain)
  reads (record_expr all additional) sound flawless =
      record_row all additional (listed all) (attributes_back all [] sound.0 sound.1 flawless) (members_from-listed all)
  reads (named reference) (name, ids, is) flawless =
      subst (λ r. Reads (named r)) (sym is)
      (named_row reference.kind name ids (ap (reference_flaws reference.kind) (sym (ap reference_text is)) ∙ flawless))
  reads (extension_expr name) sound flawless = extension_row name sound

  attributes_back : (all : AttributeList) (before : Attributes) → IsStrictlySortedBy text_cmp (keys_of before ++ attribute_names all)
      → SoundAttributes all → attributes_flaws all ≡ [] → attributes_of (attribute_members all) before ≡ Some (before ++ listed all)
  attributes_back no_attribute before sorted sound flawless = attributes_of-none before ∙ ap Some (sym (append-nil before))
  attributes_back (attribute name required ty rest) before sorted sound flawless =
      let both = both_none (type_flaws ty) (attributes_flaws rest) flawless in
      let one = attribute_back required ty (reads ty sound.0 both.0) in
      attributes_of-member name (attribute_document required ty) (attribute_members rest) before
      ∙ ap (option_and_then (λ it. attributes_of (attribute_members rest) (insert_entry text_cmp before name it))) one
      ∙ ap (attributes_of (attribute_members rest)) (put-last text_cmp-total before name (required, ty) (attribute_names rest) sorted)
      ∙ attributes_back rest (before ++ (name, (required, ty)) ∷ [])
      (still_sorted text_cmp-total before name (required, ty) (attribute_names rest) sorted) sound.1 both.1
      ∙ ap Some (append_assoc before ((name, (required, ty)) ∷ []) (listed rest))

-- what is written of a type describes it
pub type_back : (ty : Expr) → SoundType ty → type_flaws ty ≡ [] → type_of (type_document ty) ≡ Some ty
type_back ty sound flawless = type_of-with (type_document ty) ∙ (reads ty sound flawless).plain

-- what is written of a common type describes it
pub common_type_back : (ty : Expr) → SoundType ty → type_flaws ty ≡ [] → common_type_of (type_document ty) ≡ Some ty
common_type_back ty sound flawless =
    ap (λ test. if_so test (type_with OfCommonType (type_document ty))) (ap annotations_fit (fields_apart ty no_members).1)
    ∙ (reads ty sound flawless).of_common

-- the closed record without attributes is the one that is left out
pub empty-is : (ty : Expr) → is_empty_record ty ≡ true → ty ≡ empty_record
empty-is (record_expr no_attribute false) e = refl
empty-is _ e = absurd (cc)

-- what is written in a field for a shape or a context describes it
pub shape_back : (ty : Expr) → SoundType ty → type_flaws ty ≡ [] → shape_in (shape_held ty) ≡ Some ty
shape_back ty sound flawless = by (is_empty_record ty) refl
  where
    by : (test : Bool) → is_empty_record ty ≡ test → shape_in (cond test None (Some (type_document ty))) ≡ Some ty
    by true e = ap Some (sym (empty-is ty e))
    by false e = type_back ty sound flawless
