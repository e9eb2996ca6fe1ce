-- What is written of types, row by row.
use Rattle.std.proofs.Common.{◌≡◌, ◌≢◌, List, [], ◌∷◌, ◌++◌, Bool, true, false, not, ◌&&◌, ◌||◌, cond, map, string_cmp, Some, None, Contains, codes, string_bytes, refl, ap, sym, subst, ◌∙◌, append_assoc, arith}
use Rattle.std.proofs.lemmas.Slice.Eq.{bytes_eq-Decides}
use Rattle.std.specs.List.Sorted.{IsStrictlySortedBy}
use Rattle.std.specs.Map.{keys_of}
use Rattle.std.specs.Str.{bytes_eq}
use Rattle.std.specs.declared.alloc.Global.{Global}
use Rattle.std.specs.declared.string.String.{String}
use Rattle.cedar_ast.proofs.NameReading.{ids_are_identifiers}
use Rattle.cedar_ast.proofs.Ordered.{IsStrictlySortedBy-map}
use Rattle.cedar_json.proofs.NameLemmas.{is_unreserved-id, spelled_name-text}
use Rattle.cedar_json_writer.proofs.WritingLemmas.{MembersShape, fields_after, object_closed}
use Rattle.cedar_json_writer.specs.Words.{AddsField, AddsFields, AddsMembers, AddsValue, Common, CommonOrEntity, Each, Entity, Expr, IsFlawOf, IsFree, IsOfIdentifiers, PlainName, RawName, SoundAttributes, SoundType, Text, TypeOfAttribute, UnreservedId, WriteFault, attribute_document, attribute_members, attribute_names, attributes_flaws, extension_expr, flag_held, form_opening, id_key, is_among, long_expr, members_from, name_text, named, optional_member, plain_members, raw_attribute, raw_name, raw_reference, record_expr, reserved_word, set_expr, spelled_name, text_cmp, text_expr, truth_expr, type_document, type_flaws, type_members, type_word, type_words, unreserved_id_text}
use Rattle.cedar_schema_ast.specs.Expr.{Members as AttributeList}
use Rattle.json.specs.Json.{object, string, Members, no_members, member}
use Rattle.json.specs.Token.{Token, begin_object}
use Rattle.json.specs.Tree.{json_tokens, members_tokens}

-- a written name is of identifiers
pub raw_ids : (name : RawName) → IsOfIdentifiers (raw_name name)
raw_ids name = (name.0.parts.value.id.identifier, ids_are_identifiers name.0.parts.value.path.items)

-- the text spells the name with no path
abbrev IsBase : Text → Type 0
IsBase text = spelled_name text ≡ Some (record { base = text; path = [] })

base_apart : (name : PlainName) (word : Text) (test : Bool) → bytes_eq (name_text name) word ≡ test → spelled_name (name_text name) ≡ Some name
    → IsBase word → name.path ≢ [] → test ≡ false
base_apart name word true same spelled base qualified =
    let names : Some name ≡ Some (record { base = word; path = [] }) =
    sym spelled ∙ ap spelled_name ((bytes_eq-Decides (name_text name) word).0 same) ∙ base in
    let is : name ≡ record { base = word; path = [] } = cc in
    absurd (qualified (ap (λ (n : PlainName). n.path) is))
base_apart name word false same spelled base qualified = refl

bases_apart : (name : PlainName) (words : List Text) → spelled_name (name_text name) ≡ Some name → Each IsBase words → name.path ≢ []
    → is_among (name_text name) words ≡ false
bases_apart name [] spelled bases qualified = refl
bases_apart name (word ∷ words) spelled bases qualified =
    ap (λ test. test || is_among (name_text name) words)
    (base_apart name word (bytes_eq (name_text name) word) refl spelled bases.0 qualified)
    ∙ bases_apart name words spelled bases.1 qualified

-- a name with a path prints as no word
pub qualified_apart : (name : RawName) → (raw_name name).path ≢ [] → is_among (name_text (raw_name name)) type_words ≡ false
qualified_apart name qualified =
    bases_apart (raw_name name) type_words (spelled_name-text (raw_name name) (raw_ids name))
    (refl, (refl, (refl, (refl, (refl, (refl, (refl, (refl, tt)))))))) qualified

not_reserved : (text : Text) (test : Bool) → bytes_eq text reserved_word ≡ test → text ≢ reserved_word → not test ≡ true
not_reserved text true same other = absurd (other ((bytes_eq-Decides text reserved_word).0 same))
not_reserved text false same other = refl

-- and is the key of an entity type
pub id_key-read : (id : UnreservedId) → id_key (unreserved_id_text id) ≡ Some (unreserved_id_text id)
id_key-read id = ap (λ test. cond test (Some (unreserved_id_text id)) None) (is_unreserved-id id)

-- a type of which nothing is a flaw, and which is sound
abbrev pub FreeType : Expr → Type 0
FreeType ty = IsFree (type_flaws ty) (SoundType ty)

pub text_free : FreeType text_expr
unfolding type_flaws SoundType
text_free = record { flawless = refl; sound = tt }

pub long_free : FreeType long_expr
unfolding type_flaws SoundType
long_free = record { flawless = refl; sound = tt }

pub truth_free : FreeType truth_expr
unfolding type_flaws SoundType
truth_free = record { flawless = refl; sound = tt }

pub set_free : (element : Expr) → FreeType element → FreeType (set_expr element)
unfolding type_flaws SoundType
set_free element it = record { flawless = it.flawless; sound = it.sound }

pub entity_free : (name : RawName) → FreeType (named (raw_reference None Entity name))
unfolding type_flaws SoundType
entity_free name = record { flawless = refl; sound = (raw_name name, raw_ids name, refl) }

pub either_free : (name : RawName) → FreeType (named (raw_reference None CommonOrEntity name))
unfolding type_flaws SoundType
either_free name = record { flawless = refl; sound = (raw_name name, raw_ids name, refl) }

pub common_free : (name : RawName) → is_among (name_text (raw_name name)) type_words ≡ false → FreeType (named (raw_reference None Common name))
unfolding type_flaws SoundType
common_free name other = record {
  flawless = ap (λ test. cond test (type_word (name_text (raw_name name)) ∷ []) []) other;
  sound = (raw_name name, raw_ids name, refl);
}

pub common_flaw : (name : RawName) (text : Text) → is_among (name_text (raw_name name)) type_words ≡ true → text ≡ name_text (raw_name name)
    → Contains (type_flaws (named (raw_reference None Common name))) (type_word text)
unfolding type_flaws
common_flaw name text word same =
    subst (λ flaws. Contains flaws (type_word text)) (sym (ap (λ test. cond test (type_word (name_text (raw_name name)) ∷ []) []) word))
    (0, omega arith, ap type_word (sym same))

-- the fields of a reference
pub common_fields : (old new : List Token) (name : RawName)
    → AddsField old new (codes "type") (Some (string (name_text (raw_name name))))
    → AddsFields old new (type_members (named (raw_reference None Common name)))
unfolding type_members
common_fields old new name added = added

-- the attributes of a record type, by their entries
abbrev pub Entries : Type 0
Entries = List (String Global × TypeOfAttribute RawName)

abbrev pub listed : Entries → AttributeList
listed entries = members_from (plain_members None entries)

pub no_attribute_members : attribute_members (listed []) ≡ no_members
unfolding type_members
no_attribute_members = refl

pub one_more_attribute : (entry : String Global × TypeOfAttribute RawName) (rest : Entries) → attribute_members (listed (entry ∷ rest))
    ≡ member (string_bytes entry.0) (attribute_document (raw_attribute None entry.1).0 (raw_attribute None entry.1).1) (attribute_members (listed rest))
unfolding type_members
one_more_attribute entry rest = refl

pub no_attribute_flaws : attributes_flaws (listed []) ≡ []
unfolding type_flaws
no_attribute_flaws = refl

pub more_attribute_flaws : (entry : String Global × TypeOfAttribute RawName) (rest : Entries)
    → attributes_flaws (listed (entry ∷ rest)) ≡ type_flaws (raw_attribute None entry.1).1 ++ attributes_flaws (listed rest)
unfolding type_flaws
more_attribute_flaws entry rest = refl

pub no_attribute_sound : SoundAttributes (listed [])
unfolding SoundType
no_attribute_sound = tt

pub more_attributes_sound : (entry : String Global × TypeOfAttribute RawName) (rest : Entries) → SoundType (raw_attribute None entry.1).1
    → SoundAttributes (listed rest) → SoundAttributes (listed (entry ∷ rest))
unfolding SoundType
more_attributes_sound entry rest one others = (one, others)

abbrev pub attributes_shape : MembersShape (String Global × TypeOfAttribute RawName)
attributes_shape = record {
  members = λ entries. attribute_members (listed entries);
  flaws = λ entries. attributes_flaws (listed entries);
  Sound = λ entries. SoundAttributes (listed entries);
  text = λ entry. string_bytes entry.0;
  document = λ entry. attribute_document (raw_attribute None entry.1).0 (raw_attribute None entry.1).1;
  flaws_of = λ entry. type_flaws (raw_attribute None entry.1).1;
  SoundOne = λ entry. SoundType (raw_attribute None entry.1).1;
  no_more = no_attribute_members;
  no_flaws = no_attribute_flaws;
  none_sound = no_attribute_sound;
  one_more = one_more_attribute;
  more_flaws = more_attribute_flaws;
  more_sound = more_attributes_sound;
}

-- the fields of a word alone
pub text_fields : (old new : List Token) → AddsField old new (codes "type") (Some (string (codes "String"))) → AddsFields old new (type_members text_expr)
unfolding type_members
text_fields old new added = added

pub long_fields : (old new : List Token) → AddsField old new (codes "type") (Some (string (codes "Long"))) → AddsFields old new (type_members long_expr)
unfolding type_members
long_fields old new added = added

pub truth_fields : (old new : List Token) → AddsField old new (codes "type") (Some (string (codes "Boolean"))) → AddsFields old new (type_members truth_expr)
unfolding type_members
truth_fields old new added = added

-- the fields of a form with a name
abbrev pub named_members : Text → Text → Members → Members
named_members word text rest = member (codes "type") (string word) (member (codes "name") (string text) rest)

pub entity_fields : (old new : List Token) (name : RawName) → AddsFields old new (named_members (codes "Entity") (name_text (raw_name name)))
    → AddsFields old new (type_members (named (raw_reference None Entity name)))
unfolding type_members
entity_fields old new name added = added

pub either_fields : (old new : List Token) (name : RawName) → AddsFields old new (named_members (codes "EntityOrCommon") (name_text (raw_name name)))
    → AddsFields old new (type_members (named (raw_reference None CommonOrEntity name)))
unfolding type_members
either_fields old new name added = added

pub extension_fields : (old new : List Token) (name : Text) → AddsFields old new (named_members (codes "Extension") name)
    → AddsFields old new (type_members (extension_expr name))
unfolding type_members
extension_fields old new name added = added

pub extension_free : (name : UnreservedId) → FreeType (extension_expr (unreserved_id_text name))
unfolding type_flaws SoundType
extension_free name = record { flawless = refl; sound = is_unreserved-id name }

pub set_fields : (old formed new : List Token) (element : Expr) → formed ≡ old ++ form_opening (codes "Set") (codes "element")
    → AddsValue formed new (type_document element) → AddsFields old new (type_members (set_expr element))
unfolding type_members
set_fields old formed new element form added rest =
    let held = json_tokens (type_document element) in
    ap (λ l. l ++ members_tokens rest) added ∙ append_assoc formed held (members_tokens rest)
    ∙ ap (λ l. l ++ (held ++ members_tokens rest)) form
    ∙ append_assoc old (form_opening (codes "Set") (codes "element")) (held ++ members_tokens rest)

pub set_flaw : (element : Expr) (f : WriteFault) → IsFlawOf (type_flaws element) f → IsFlawOf (type_flaws (set_expr element)) f
unfolding type_flaws
set_flaw element f is = is

pub record_fields : (old formed opened closed new : List Token) (all : AttributeList) (additional : Bool)
    → formed ≡ old ++ form_opening (codes "Record") (codes "attributes") → opened ≡ formed ++ begin_object ∷ []
    → AddsMembers opened closed (attribute_members all) → AddsField closed new (codes "additionalAttributes") (flag_held false additional)
    → AddsFields old new (type_members (record_expr all additional))
unfolding type_members
record_fields old formed opened closed new all additional form begun added flag =
    fields_after old closed new
    (λ rest. member (codes "type") (string (codes "Record")) (member (codes "attributes") (object (attribute_members all)) rest))
    (optional_member (codes "additionalAttributes") (flag_held false additional)) listed_first flag
  where
    listed_first : AddsFields old closed
        (λ rest. member (codes "type") (string (codes "Record")) (member (codes "attributes") (object (attribute_members all)) rest))
    listed_first rest =
        let inside = members_tokens (attribute_members all) ++ members_tokens rest in
        ap (λ l. l ++ members_tokens rest) added ∙ append_assoc opened (members_tokens (attribute_members all)) (members_tokens rest)
        ∙ ap (λ l. l ++ inside) begun ∙ append_assoc formed (begin_object ∷ []) inside
        ∙ ap (λ l. l ++ begin_object ∷ inside) form
        ∙ append_assoc old (form_opening (codes "Record") (codes "attributes")) (begin_object ∷ inside)

listed-names : (entries : Entries) → attribute_names (listed entries) ≡ map string_bytes (keys_of entries)
listed-names [] = refl
listed-names (entry ∷ rest) = ap (λ names. string_bytes entry.0 ∷ names) (listed-names rest)

pub record_free : (entries : Entries) (additional : Bool) → IsStrictlySortedBy string_cmp (keys_of entries)
    → IsFree (attributes_flaws (listed entries)) (SoundAttributes (listed entries)) → FreeType (record_expr (listed entries) additional)
unfolding type_flaws SoundType
record_free entries additional sorted free = record {
  flawless = free.flawless;
  sound = (
    subst (IsStrictlySortedBy text_cmp) (sym (listed-names entries))
        (IsStrictlySortedBy-map string_cmp text_cmp string_bytes (λ a b. refl) (keys_of entries) sorted),
    free.sound,
  );
}

pub record_flaw : (all : AttributeList) (additional : Bool) (f : WriteFault) → IsFlawOf (attributes_flaws all) f
    → IsFlawOf (type_flaws (record_expr all additional)) f
unfolding type_flaws
record_flaw all additional f is = is

-- the object of an attribute
pub attribute_added : (old opened inside new : List Token) (required : Bool) (ty : Expr) → opened ≡ old ++ begin_object ∷ []
    → AddsFields opened inside (type_members ty)
    → AddsMembers inside new (optional_member (codes "required") (flag_held true required) no_members)
    → AddsValue old new (attribute_document required ty)
attribute_added old opened inside new required ty begun added ended =
    object_closed old opened inside new (type_members ty) (optional_member (codes "required") (flag_held true required) no_members) begun added ended
