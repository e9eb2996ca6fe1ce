-- The definition of types by look-ups.
use Rattle.std.proofs.Common.{◌≡◌, ℕ, ◌+◌, ◌<◌, ◌≤◌, length, drop, drop_of_length-le, get_or, BTreeMap, List, [], ◌∷◌, Bool, true, false, cond, Option, Some, None, Result, Ok, Err, MatchResult, ◌≢◌, option_map, option_and_then, codes, string_bytes, string_cmp, Bor, String, Global, refl, ap, ap₂, sym, ◌∙◌}
use Rattle.std.proofs.lemmas.Bool.{cond-false}
use Rattle.std.proofs.lemmas.List.{drop_more}
use Rattle.std.proofs.lemmas.Slice.Eq.{bytes_eq-Decides}
use Rattle.std.specs.BTreeMap.{insert_entry}
use Rattle.std.specs.Bool.{Decides}
use Rattle.std.specs.Str.{bytes_eq}
use Rattle.cedar_json.proofs.MapLemmas.{seen-insert}
use Rattle.cedar_json.specs.Words.{Attributes, Common, Entity, Expr, Fault, Loc, OfAttribute, OfType, PlainName, RawName, Reference, Text, «Type», TypeOfAttribute, additional_field, annotations_fit, attribute_by, attribute_of, attribute_step, attributes_field, attributes_held, attributes_in, attributes_of, element_field, element_of, entity_reference, flag_or, fold-roll-TypeOfAttribute, has_only, if_so, known_fields, later_field, members_from, plain_members, raw_attribute, raw_expr, raw_record, raw_reference, record_expr, record_of, record_step, reference_in, roll-RecordType, roll-TypeOfAttribute, spelled_name, text_cmp, text_held, type_by, type_by_word, type_of, type_step, type_with, variant_step}
use Rattle.cedar_json.specs.declared.fault.Fault.TheVariants as fault
use Rattle.cedar_json.specs.declared.fault.Row.{Row}
use Rattle.cedar_schema_ast.proofs.ExprLemmas.{record_type_expr-made}
use Rattle.cedar_schema_ast.specs.Words.{named, reference_to}
use Rattle.cedar_schema_ast.specs.declared.json_schema.reference_type.ReferenceType.{ReferenceType}
use Rattle.cedar_schema_ast.specs.declared.json_schema.reference_type.ReferenceType.TheVariants.{CommonOrEntity}
use Rattle.json.specs.Find.{as_object, as_str, get, get_member, later_or}
use Rattle.json.specs.Json.{Json, null, boolean, number, string, array, object, Members, no_members, member}
use Rattle.json.specs.Value.{value_view, members_view}
use Rattle.json.specs.declared.value.Value.{Value}

-- a walk for a field is a look-up
pub later : {A : Type 0} (f : Json → Option A) (o : Option Json) (found : Option A) (b : Bool) (j : Json)
    → found ≡ option_and_then f o → later_field o found (cond b (f j) None) ≡ option_and_then f (later_or o (cond b (Some j) None))
later f (Some k) found b j h = h
later f None found true j h = refl
later f None found false j h = refl

element_of-get : (ms : Members) → element_of ms ≡ option_and_then type_of (get_member (codes "element") ms)
unfolding type_of
element_of-get no_members = refl
element_of-get (member key j rest) =
    later type_of (get_member (codes "element") rest) (element_of rest) (bytes_eq key (codes "element")) j (element_of-get rest)

attributes_in-get : (ms : Members) → attributes_in ms ≡ option_and_then attributes_held (get_member (codes "attributes") ms)
unfolding type_of
attributes_in-get no_members = refl
attributes_in-get (member key j rest) =
    later attributes_held (get_member (codes "attributes") rest) (attributes_in rest) (bytes_eq key (codes "attributes")) j (attributes_in-get rest)

-- the type that a value describes, by its fields
pub type_of-with : (j : Json) → type_of j ≡ type_with OfType j
unfolding type_of
type_of-with null = refl
type_of-with (boolean b) = refl
type_of-with (number s) = refl
type_of-with (string s) = refl
type_of-with (array js) = refl
type_of-with (object ms) = ap₂ (type_by OfType (object ms)) (element_of-get ms) (attributes_in-get ms)

-- the attribute that a value describes, by its fields
pub attribute_of-with : (j : Json) → attribute_of j ≡ attribute_by j (type_with OfAttribute j)
unfolding type_of
attribute_of-with null = refl
attribute_of-with (boolean b) = refl
attribute_of-with (number s) = refl
attribute_of-with (string s) = refl
attribute_of-with (array js) = refl
attribute_of-with (object ms) =
    ap (attribute_by (object ms)) (ap₂ (type_by OfAttribute (object ms)) (element_of-get ms) (attributes_in-get ms))

-- the attributes that a value holds are those of its members
attributes_held-object : (j : Json) → attributes_held j ≡ option_and_then (λ ms. attributes_of ms []) (as_object j)
unfolding type_of
attributes_held-object null = refl
attributes_held-object (boolean b) = refl
attributes_held-object (number s) = refl
attributes_held-object (string s) = refl
attributes_held-object (array js) = refl
attributes_held-object (object ms) = refl

pub attributes_held-found : (o : Option Json)
    → option_and_then attributes_held o ≡ option_and_then (λ ms. attributes_of ms []) (option_and_then as_object o)
attributes_held-found None = refl
attributes_held-found (Some j) = attributes_held-object j

-- no member describes no more attributes
pub attributes_of-none : (before : Attributes) → attributes_of no_members before ≡ Some before
unfolding type_of
attributes_of-none before = refl

-- a member describes one more
pub attributes_of-member : (key : Text) (j : Json) (rest : Members) (before : Attributes)
    → attributes_of (member key j rest) before ≡ option_and_then (λ it. attributes_of rest (insert_entry text_cmp before key it)) (attribute_of j)
unfolding type_of
attributes_of-member key j rest before = refl

abbrev Entries : Type 0
Entries = List (String Global × TypeOfAttribute RawName)

-- what an attribute stands for that is made of its parts
pub raw_attribute-made : (ty : «Type» RawName) (required : Bool) (loc : Option Loc)
    → raw_attribute None (roll-TypeOfAttribute RawName (record { ty = ty; required = required; loc = loc })) ≡ (required, raw_expr None ty)
raw_attribute-made ty required loc =
    fold-roll-TypeOfAttribute RawName Expr Expr Expr (Bool × Expr) (type_step RawName (raw_reference None)) (variant_step RawName (raw_reference None))
    (record_step RawName (raw_reference None)) (attribute_step RawName (raw_reference None)) (record { ty = ty; required = required; loc = loc })

-- what a record type stands for that is made of its parts
pub raw_record-made : (attributes : BTreeMap (String Global) (TypeOfAttribute RawName)) (additional : Bool)
    → raw_record None (roll-RecordType RawName (record { attributes = attributes; additional_attributes = additional }))
    ≡ record_expr (members_from (plain_members None attributes.entries)) additional
raw_record-made attributes additional =
    record_type_expr-made RawName (raw_reference None) (record { attributes = attributes; additional_attributes = additional })

-- an attribute over whether its annotations fit, its type, and whether it is required
abbrev by_parts : Bool → Option Expr → Option Bool → Option (Bool × Expr)
by_parts test ty flag = option_and_then {U = Bool × Expr} (λ required. if_so test (option_map (λ t. (required, t)) ty)) flag

none_fit : (ty : Option Expr) (flag : Option Bool) → by_parts false ty flag ≡ None
none_fit ty None = refl
none_fit ty (Some required) = refl

none_typed : (test : Bool) (flag : Option Bool) → by_parts test None flag ≡ None
none_typed test None = refl
none_typed true (Some required) = refl
none_typed false (Some required) = refl

-- an attribute by its fields
module _ (j : Json) where
  abbrev flag : Option Bool
  flag = flag_or true (get (codes "required") j)

  abbrev fits : Bool
  fits = annotations_fit (get (codes "annotations") j)

  abbrev ty : Option Expr
  ty = type_with OfAttribute j

  pub no_required : flag ≡ None → attribute_of j ≡ None
  no_required e = attribute_of-with j ∙ ap (by_parts fits ty) e

  pub no_annotations : fits ≡ false → attribute_of j ≡ None
  no_annotations e = attribute_of-with j ∙ ap (λ test. by_parts test ty flag) e ∙ none_fit ty flag

  pub no_type : ty ≡ None → attribute_of j ≡ None
  no_type e = attribute_of-with j ∙ ap (λ t. by_parts fits t flag) e ∙ none_typed fits flag

  pub attribute_read : (required : Bool) (it : Expr) → flag ≡ Some required → fits ≡ true → ty ≡ Some it → attribute_of j ≡ Some (required, it)
  attribute_read required it is_flagged is_fit is_typed =
      attribute_of-with j ∙ ap (by_parts fits ty) is_flagged
      ∙ ap (λ test. by_parts test ty (Some required)) is_fit ∙ ap (λ t. by_parts true t (Some required)) is_typed

abbrev MaybeShared : Type 0
MaybeShared = Bor Text × Value Global

-- the member at an index, and those after it
pub members_from_index : (xs all : List MaybeShared) (index : ℕ) (x : MaybeShared) → xs ≡ all → index < length xs → x ≡ get_or xs index x
    → drop index all ≡ x ∷ drop (index + 1) all
members_from_index xs all index x same within is =
    ap (drop index) (sym same) ∙ drop_more xs index x within ∙ ap (λ y. y ∷ drop (index + 1) xs) (sym is)
    ∙ ap (λ ys. x ∷ drop (index + 1) ys) same

-- attributes that are read one after another
module _ (all : List MaybeShared) (index : ℕ) (x : MaybeShared) (entries : Entries) (here : drop index all ≡ x ∷ drop (index + 1) all)
    (so_far : attributes_of (members_view all) [] ≡ attributes_of (members_view (drop index all)) (plain_members None entries)) where
  abbrev put_before : Option (Bool × Expr) → Option Attributes
  put_before = option_and_then (λ it. attributes_of (members_view (drop (index + 1) all)) (insert_entry text_cmp (plain_members None entries) x.0.now it))

  step : attributes_of (members_view all) [] ≡ put_before (attribute_of (value_view x.1))
  step = so_far ∙ ap (λ ys. attributes_of (members_view ys) (plain_members None entries)) here
      ∙ attributes_of-member x.0.now (value_view x.1) (members_view (drop (index + 1) all)) (plain_members None entries)

  pub no_attribute : attribute_of (value_view x.1) ≡ None → attributes_of (members_view all) [] ≡ None
  no_attribute e = step ∙ ap put_before e

  pub one_more : (key : String Global) (it : TypeOfAttribute RawName) (new : Entries) → attribute_of (value_view x.1) ≡ Some (raw_attribute None it)
      → string_bytes key ≡ x.0.now → new ≡ insert_entry string_cmp entries key it
      → attributes_of (members_view all) [] ≡ attributes_of (members_view (drop (index + 1) all)) (plain_members None new)
  one_more key it new is_read keyed grown =
      step ∙ ap put_before is_read
      ∙ ap (λ name. attributes_of (members_view (drop (index + 1) all)) (insert_entry text_cmp (plain_members None entries) name (raw_attribute None it)))
      (sym keyed)
      ∙ ap (attributes_of (members_view (drop (index + 1) all))) (sym (seen-insert string_cmp text_cmp string_bytes (raw_attribute None) (λ a b. refl) entries key it))
      ∙ ap (λ es. attributes_of (members_view (drop (index + 1) all)) (plain_members None es)) (sym grown)

-- where no member is left, all were read
pub all_read : (xs all : List MaybeShared) (index : ℕ) (entries : Entries) → xs ≡ all → length xs ≤ index
    → attributes_of (members_view all) [] ≡ attributes_of (members_view (drop index all)) (plain_members None entries)
    → attributes_of (members_view all) [] ≡ Some (plain_members None entries)
all_read xs all index entries same end so_far =
    so_far ∙ ap (λ ys. attributes_of (members_view (drop index ys)) (plain_members None entries)) (sym same)
    ∙ ap (λ ys. attributes_of (members_view ys) (plain_members None entries)) (drop_of_length-le xs end)
    ∙ attributes_of-none (plain_members None entries)

-- the type that a field describes that holds a value
pub element_field-held : (j k : Json) → get (codes "element") j ≡ Some k → element_field j ≡ type_with OfType k
element_field-held j k held = ap (option_and_then type_of) held ∙ type_of-with k

-- the attributes that a field describes that holds an object
pub attributes_field-held : (j : Json) (ms : Members) → option_and_then as_object (get (codes "attributes") j) ≡ Some ms
    → attributes_field j ≡ attributes_of ms []
attributes_field-held j ms held = attributes_held-found (get (codes "attributes") j) ∙ ap (option_and_then (λ (m : Members). attributes_of m [])) held

pub attributes_field-none : (j : Json) → option_and_then as_object (get (codes "attributes") j) ≡ None → attributes_field j ≡ None
attributes_field-none j none = attributes_held-found (get (codes "attributes") j) ∙ ap (option_and_then (λ (m : Members). attributes_of m [])) none

-- a reference to an entity type is one of the name that the text spells
entity_reference-spelled : (o : Option Json)
    → option_and_then entity_reference o ≡ option_map (reference_to None Entity) (option_and_then spelled_name (option_and_then as_str o))
entity_reference-spelled None = refl
entity_reference-spelled (Some j) = refl

referred : (o : Option PlainName) (name : PlainName) → option_map (reference_to None Entity) o ≡ Some (reference_to None Entity name)
    → o ≡ Some name
referred None name e = absurd (cc)
referred (Some other) name e =
    let same : reference_to None Entity other ≡ reference_to None Entity name = cc in
    let names : other ∷ [] ≡ name ∷ [] = ap (λ (it : Reference). it.possibilities) same in cc

unreferred : (o : Option PlainName) → option_map (reference_to None Entity) o ≡ None → o ≡ None
unreferred None e = refl
unreferred (Some other) e = absurd (cc)

-- so a field that holds such a reference spells its name, and one that holds none spells none
pub name_held : (o : Option Json) (name : PlainName) → option_and_then entity_reference o ≡ Some (reference_to None Entity name)
    → option_and_then spelled_name (option_and_then as_str o) ≡ Some name
name_held o name e = referred _ name (sym (entity_reference-spelled o) ∙ e)

pub no_name_held : (o : Option Json) → option_and_then entity_reference o ≡ None → option_and_then spelled_name (option_and_then as_str o) ≡ None
no_name_held o e = unreferred _ (sym (entity_reference-spelled o) ∙ e)

-- what a result says of one description, it says of an equal one
pub described_too : {X A : Type 0} (r : Result X Fault) (shown : X → A) (d e : Option A) (IsSo IsToo : Fault → Type 0) → e ≡ d
    → ((refusal : Fault) → IsSo refusal → IsToo refusal)
    → MatchResult r (λ it. d ≡ Some (shown it)) (λ refusal. (refusal ≢ fault.Memory → d ≡ None) × IsSo refusal)
    → MatchResult r (λ it. e ≡ Some (shown it)) (λ refusal. (refusal ≢ fault.Memory → e ≡ None) × IsToo refusal)
described_too (Ok it) shown d e IsSo IsToo same weaker said = same ∙ said
described_too (Err refusal) shown d e IsSo IsToo same weaker said = (λ other. same ∙ said.0 other, weaker refusal said.1)

fails : {P : Type 0} (b : Bool) → Decides b P → (P → ⊥) → b ≡ false
fails true is unless = absurd (unless (is.0 refl))
fails false is unless = refl

-- a word is none that names a kind of type
pub record IsOtherWord (word : Text) : Type 0 where
  pub no_text : word ≡ codes "String" → ⊥
  pub no_long : word ≡ codes "Long" → ⊥
  pub no_truth : word ≡ codes "Boolean" → ⊥
  pub no_set : word ≡ codes "Set" → ⊥
  pub no_record : word ≡ codes "Record" → ⊥
  pub no_entity : word ≡ codes "Entity" → ⊥
  pub no_entity_or_common : word ≡ codes "EntityOrCommon" → ⊥
  pub no_extension : word ≡ codes "Extension" → ⊥

-- such a word refers to a common type
pub type_by_word-other : (word : Text) (element : Option Expr) (attributes : Option Attributes) (additional : Option Bool) (name : Option Text)
    → IsOtherWord word → type_by_word word element attributes additional name ≡ reference_in Common word
type_by_word-other word element attributes additional name other =
    cond-false _ _ _ (differs (codes "String") other.no_text) ∙ cond-false _ _ _ (differs (codes "Long") other.no_long)
    ∙ cond-false _ _ _ (differs (codes "Boolean") other.no_truth) ∙ cond-false _ _ _ (differs (codes "Set") other.no_set)
    ∙ cond-false _ _ _ (differs (codes "Record") other.no_record) ∙ cond-false _ _ _ (differs (codes "Entity") other.no_entity)
    ∙ cond-false _ _ _ (differs (codes "EntityOrCommon") other.no_entity_or_common)
    ∙ cond-false _ _ _ (differs (codes "Extension") other.no_extension)
  where
    differs : (known : Text) → (word ≡ known → ⊥) → bytes_eq word known ≡ false
    differs known unless = fails (bytes_eq word known) (bytes_eq-Decides word known) unless

-- a record type of a flag that is none is none
pub record_of-no_flag : (attributes : Option Attributes) → record_of None attributes ≡ None
record_of-no_flag None = refl
record_of-no_flag (Some all) = refl

-- a text refers to what the name refers to that it spells
pub reference_by-name : (kind : ReferenceType) (text : Option Text)
    → option_and_then (reference_in kind) text ≡ option_map (λ name. named (reference_to None kind name)) (option_and_then spelled_name text)
reference_by-name kind None = refl
reference_by-name kind (Some text) = refl

-- the word `Entity` stands for the entity type that the name refers to
pub type_by_word-entity : (word : Text) (element : Option Expr) (attributes : Option Attributes) (additional : Option Bool) (name : Option Text)
    → word ≡ codes "Entity" → type_by_word word element attributes additional name
    ≡ option_map (λ it. named (reference_to None Entity it)) (option_and_then spelled_name name)
type_by_word-entity word element attributes additional name is =
    ap (λ w. type_by_word w element attributes additional name) is ∙ reference_by-name Entity name

-- the word `EntityOrCommon` stands for the type that the name refers to
pub type_by_word-either : (word : Text) (element : Option Expr) (attributes : Option Attributes) (additional : Option Bool) (name : Option Text)
    → word ≡ codes "EntityOrCommon" → type_by_word word element attributes additional name
    ≡ option_map (λ it. named (reference_to None CommonOrEntity it)) (option_and_then spelled_name name)
type_by_word-either word element attributes additional name is =
    ap (λ w. type_by_word w element attributes additional name) is ∙ reference_by-name CommonOrEntity name

-- an object without a word describes no type
pub type_with-no_word : (row : Row) (j : Json) → text_held (codes "type") j ≡ None → type_with row j ≡ None
type_with-no_word row j none =
    ap (option_and_then (λ w. if_so (has_only (known_fields row j) j)
    (type_by_word w (element_field j) (attributes_field j) (additional_field j) (text_held (codes "name") j)))) none

-- nor does one of which not all fields are known
pub type_with-unknown : (row : Row) (j : Json) (word : Text) → text_held (codes "type") j ≡ Some word → has_only (known_fields row j) j ≡ false
    → type_with row j ≡ None
type_with-unknown row j word held other =
    let by_word : Text → Option Expr = λ w. type_by_word w (element_field j) (attributes_field j) (additional_field j) (text_held (codes "name") j) in
    ap (option_and_then (λ w. if_so (has_only (known_fields row j) j) (by_word w))) held ∙ ap (λ test. if_so test (by_word word)) other

-- the type that an object of known fields describes is that of its word
pub type_with-known : (row : Row) (j : Json) (word : Text) → text_held (codes "type") j ≡ Some word → has_only (known_fields row j) j ≡ true
    → type_with row j ≡ type_by_word word (element_field j) (attributes_field j) (additional_field j) (text_held (codes "name") j)
type_with-known row j word held known =
    let by_word : Text → Option Expr = λ w. type_by_word w (element_field j) (attributes_field j) (additional_field j) (text_held (codes "name") j) in
    ap (option_and_then (λ w. if_so (has_only (known_fields row j) j) (by_word w))) held ∙ ap (λ test. if_so test (by_word word)) known
