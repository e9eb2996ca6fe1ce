-- In what is written no object has a key twice.
use Rattle.std.proofs.Common.{◌≡◌, ◌≢◌, ◌&&◌, ◌||◌, not, All, List, [], ◌∷◌, ◌++◌, map, Bool, true, false, cond, Option, Some, None, option_map, codes, refl, ap, sym, subst, ◌∙◌, arith}
use Rattle.std.proofs.lemmas.Bool.{false≢true}
use Rattle.std.proofs.lemmas.List.Elements.{All-cons, All-nil}
use Rattle.std.proofs.lemmas.List.Kept.{AllPairs-cons}
use Rattle.std.proofs.lemmas.Map.Keys.{Less-from_sorted, sorted_head, sorted_tail}
use Rattle.std.proofs.lemmas.Slice.Eq.{bytes_eq-Decides}
use Rattle.std.specs.Cmp.Lexicographic.{options_total}
use Rattle.std.specs.List.{AllByRecursion}
use Rattle.std.specs.List.Sorted.{IsStrictlySortedBy}
use Rattle.std.specs.Option.{option_cmp}
use Rattle.std.specs.Str.{bytes_eq}
use Rattle.std.specs.declared.cmp.Ordering.TheVariants.{Less}
use Rattle.cedar_ast.proofs.Ordered.{not_itself}
use Rattle.cedar_ast.proofs.PlainNames.{name_cmp-total}
use Rattle.cedar_ast.proofs.Texts.{text_cmp-total}
use Rattle.cedar_json_writer.proofs.FragmentReadBack.{namespace_back}
use Rattle.cedar_json_writer.proofs.WrittenOrder.{both_none}
use Rattle.cedar_json_writer.specs.Words.{Common, CommonOrEntity, Each, Entity, EntityBody, Entries, Expr, Flaw, IfThere, IsPlain, Pairs, PlainName, Reference, ReferenceType, Requests, SoundAction, SoundAttributes, SoundBody, SoundDeclarations, SoundDefinition, SoundEntries, SoundFragment, SoundPairs, SoundRequests, SoundType, SoundValue, SoundValues, Text, Tree, Trees, WrittenAction, WrittenDefinition, WrittenEntity, WrittenFragment, WrittenParent, action_document, action_flaws, attribute_members, attribute_names, body_flaws, body_members, call_value, common_key, common_types_held, declared_flaws, declared_members, definition_document, definition_flaws, elsewhere, entity_type_document, entries_flaws, entries_from, entry, entry_names, enumerated, extension_expr, external, flag_held, flaws_in, fragment_document, id_key, is_among, is_empty_record, key_flaws, keyed_members, long_expr, map_value, name_cmp, named, namespace_key, namespace_text, no_entry, no_tree, number_value, optional_member, pairs_document, pairs_flaws, parent_array, parent_document, parents_held, parts_flaws, record_expr, reference_array, reference_members, reference_text, requests, requests_document, requests_flaws, set_expr, set_value, shape_held, standard, text_array, text_cmp, text_expr, text_value, tree, truth_expr, truth_value, type_document, type_flaws, type_members, uid_value, value_document, value_flaws, value_items, value_members, values_flaws}
use Rattle.cedar_schema_ast.specs.Expr.{Members as AttributeList, no_member as no_attribute, member as attribute}
use Rattle.json.specs.Json.{Json, object, Members, no_members, member}
use Rattle.json.specs.Strict.{AreDistinct, HasUniqueKeys, ItemsHaveUniqueKeys, MembersHaveUniqueKeys, keys}

-- whether no text comes twice
abbrev are_apart : List Text → Bool
are_apart [] = true
are_apart (text ∷ texts) = not (is_among text texts) && are_apart texts

unlisted_by : (text first : Text) (rest : List Text) (test : Bool) → bytes_eq text first ≡ test → (test || is_among text rest) ≡ false
    → (is_among text rest ≡ false → All (λ other. text ≢ other) rest) → All (λ other. text ≢ other) (first ∷ rest)
unlisted_by text first rest true same none later = absurd (cc)
unlisted_by text first rest false differs none later =
    All-cons (λ other. text ≢ other) first rest (λ same. false≢true (sym differs ∙ (bytes_eq-Decides text first).1 same)) (later none)

unlisted : (text : Text) (texts : List Text) → is_among text texts ≡ false → All (λ other. text ≢ other) texts
unlisted text [] e = All-nil (λ other. text ≢ other)
unlisted text (first ∷ rest) e = unlisted_by text first rest (bytes_eq text first) refl e (λ none. unlisted text rest none)

none_apart : AreDistinct []
none_apart i j d before within = absurd (omega (arith, within))

both_parts : (a b : Bool) → (not a && b) ≡ true → (a ≡ false) × (b ≡ true)
both_parts true b e = absurd (cc)
both_parts false b e = (refl, e)

apart : (texts : List Text) → are_apart texts ≡ true → AreDistinct texts
apart [] e = none_apart
apart (text ∷ texts) e =
    let both = both_parts (is_among text texts) (are_apart texts) e in
    AllPairs-cons (λ a b. a ≢ b) text texts (unlisted text texts both.0) (apart texts both.1)

-- texts in order are all different
in_order-apart : (texts : List Text) → IsStrictlySortedBy text_cmp texts → AreDistinct texts
in_order-apart texts sorted i j d before within same =
    not_itself text_cmp text_cmp-total _ _ same (Less-from_sorted text_cmp texts i j d sorted before within)

-- a field that may be left out
optional_unique : (name : Text) (o : Option Json) (rest : Members) → IfThere HasUniqueKeys o → MembersHaveUniqueKeys rest
    → MembersHaveUniqueKeys (optional_member name o rest)
optional_unique name None rest unique others = others
optional_unique name (Some j) rest unique others = (unique, others)

flag_unique : (absent flag : Bool) → IfThere HasUniqueKeys (flag_held absent flag)
flag_unique true true = tt
flag_unique true false = tt
flag_unique false true = tt
flag_unique false false = tt

texts_unique : (texts : List Text) → HasUniqueKeys (text_array texts)
texts_unique [] = tt
texts_unique (first ∷ rest) = (tt, texts_unique rest)

-- the field of an attribute that may be optional
abbrev tail : Bool → Members
tail required = optional_member (codes "required") (flag_held true required) no_members

tail_unique : (required : Bool) → MembersHaveUniqueKeys (tail required)
tail_unique required = optional_unique (codes "required") (flag_held true required) no_members (flag_unique true required) tt

type_keys : (ty : Expr) (required : Bool) → are_apart (keys (type_members ty (tail required))) ≡ true
unfolding type_members
type_keys text_expr true = refl
type_keys text_expr false = refl
type_keys long_expr true = refl
type_keys long_expr false = refl
type_keys truth_expr true = refl
type_keys truth_expr false = refl
type_keys (set_expr element) true = refl
type_keys (set_expr element) false = refl
type_keys (extension_expr name) true = refl
type_keys (extension_expr name) false = refl
type_keys (record_expr all true) true = refl
type_keys (record_expr all true) false = refl
type_keys (record_expr all false) true = refl
type_keys (record_expr all false) false = refl
type_keys (named reference) required = by reference.kind required
  where
    by : (kind : ReferenceType) (flag : Bool) → are_apart (keys (reference_members kind (reference_text reference) (tail flag))) ≡ true
    by Common true = refl
    by Common false = refl
    by Entity true = refl
    by Entity false = refl
    by CommonOrEntity true = refl
    by CommonOrEntity false = refl

reference_unique : (kind : ReferenceType) (text : Text) (rest : Members) → MembersHaveUniqueKeys rest
    → MembersHaveUniqueKeys (reference_members kind text rest)
reference_unique Common text rest unique = (tt, unique)
reference_unique Entity text rest unique = (tt, (tt, unique))
reference_unique CommonOrEntity text rest unique = (tt, (tt, unique))

attribute_keys : (all : AttributeList) → keys (attribute_members all) ≡ attribute_names all
unfolding type_members
attribute_keys no_attribute = refl
attribute_keys (attribute name required ty rest) = ap (λ names. name ∷ names) (attribute_keys rest)

mutual
  unfolding type_members SoundType

  fields_unique : (ty : Expr) (required : Bool) → SoundType ty → MembersHaveUniqueKeys (type_members ty (tail required))
  fields_unique text_expr required sound = (tt, tail_unique required)
  fields_unique long_expr required sound = (tt, tail_unique required)
  fields_unique truth_expr required sound = (tt, tail_unique required)
  fields_unique (set_expr element) required sound =
      (tt, ((apart _ (type_keys element true), fields_unique element true sound), tail_unique required))
  fields_unique (record_expr all additional) required sound = (
    tt,
    (
      (
        subst AreDistinct (sym (attribute_keys all)) (in_order-apart (attribute_names all) sound.0),
        attributes_unique all sound.1,
      ),
      optional_unique (codes "additionalAttributes") (flag_held false additional) (tail required) (flag_unique false additional) (tail_unique required),
    ),
  )
  fields_unique (named reference) required sound =
      reference_unique reference.kind (reference_text reference) (tail required) (tail_unique required)
  fields_unique (extension_expr name) required sound = (tt, (tt, tail_unique required))

  attributes_unique : (all : AttributeList) → SoundAttributes all → MembersHaveUniqueKeys (attribute_members all)
  attributes_unique no_attribute sound = tt
  attributes_unique (attribute name required ty rest) sound =
      ((apart _ (type_keys ty required), fields_unique ty required sound.0), attributes_unique rest sound.1)

type_unique : (ty : Expr) → SoundType ty → HasUniqueKeys (type_document ty)
type_unique ty sound = (apart _ (type_keys ty true), fields_unique ty true sound)

shape_unique : (ty : Expr) → SoundType ty → IfThere HasUniqueKeys (shape_held ty)
shape_unique ty sound = by (is_empty_record ty)
  where
    by : (test : Bool) → IfThere HasUniqueKeys (cond test None (Some (type_document ty)))
    by true = tt
    by false = type_unique ty sound

tags_unique : (tags : Option Expr) → IfThere SoundType tags → IfThere HasUniqueKeys (option_map type_document tags)
tags_unique None sound = tt
tags_unique (Some ty) sound = type_unique ty sound

value_keys_of : (values : Entries) → keys (value_members values) ≡ entry_names values
unfolding value_document
value_keys_of no_entry = refl
value_keys_of (entry name value rest) = ap (λ names. name ∷ names) (value_keys_of rest)

mutual
  unfolding value_document SoundValue value_flaws

  pub value_unique : (value : Tree) → SoundValue value → value_flaws value ≡ [] → HasUniqueKeys (value_document value)
  value_unique (truth_value b) sound flawless = tt
  value_unique (number_value z) sound flawless = tt
  value_unique (text_value text) sound flawless = tt
  value_unique (uid_value uid) sound flawless = (apart (codes "__entity" ∷ []) refl, ((apart (codes "type" ∷ codes "id" ∷ []) refl, (tt, (tt, tt))), tt))
  value_unique (set_value values) sound flawless = items_unique values sound flawless
  value_unique (map_value values) sound flawless = (
    subst AreDistinct (sym (value_keys_of values)) (in_order-apart (entry_names values) sound.0),
    entries_unique values sound.1 (both_none (key_flaws values) (entries_flaws values) flawless).1,
  )
  value_unique (call_value function (tree value no_tree)) sound flawless =
      (apart (codes "__extn" ∷ []) refl, ((apart (codes "fn" ∷ codes "arg" ∷ []) refl, (tt, (value_unique value sound.1.0 (both_none (value_flaws value) (values_flaws no_tree) flawless).0, tt))), tt))
  value_unique _ sound flawless = absurd (cc)

  items_unique : (values : Trees) → SoundValues values → values_flaws values ≡ [] → ItemsHaveUniqueKeys (value_items values)
  items_unique no_tree sound flawless = tt
  items_unique (tree value rest) sound flawless =
      let both = both_none (value_flaws value) (values_flaws rest) flawless in
      (value_unique value sound.0 both.0, items_unique rest sound.1 both.1)

  entries_unique : (values : Entries) → SoundEntries values → entries_flaws values ≡ [] → MembersHaveUniqueKeys (value_members values)
  entries_unique no_entry sound flawless = tt
  entries_unique (entry name value rest) sound flawless =
      let both = both_none (value_flaws value) (entries_flaws rest) flawless in
      (value_unique value sound.0 both.0, entries_unique rest sound.1 both.1)

parents_unique : (parents : List Reference) → IfThere HasUniqueKeys (parents_held parents)
parents_unique [] = tt
parents_unique (first ∷ rest) = texts_unique (map reference_text (first ∷ rest))

entity_keys : (parents shape tags external : Option Json)
    → are_apart (keys (optional_member (codes "memberOfTypes") parents (optional_member (codes "shape") shape
    (optional_member (codes "tags") tags (optional_member (codes "external") external no_members))))) ≡ true
entity_keys None None None None = refl
entity_keys None None None (Some e) = refl
entity_keys None None (Some t) None = refl
entity_keys None None (Some t) (Some e) = refl
entity_keys None (Some s) None None = refl
entity_keys None (Some s) None (Some e) = refl
entity_keys None (Some s) (Some t) None = refl
entity_keys None (Some s) (Some t) (Some e) = refl
entity_keys (Some p) None None None = refl
entity_keys (Some p) None None (Some e) = refl
entity_keys (Some p) None (Some t) None = refl
entity_keys (Some p) None (Some t) (Some e) = refl
entity_keys (Some p) (Some s) None None = refl
entity_keys (Some p) (Some s) None (Some e) = refl
entity_keys (Some p) (Some s) (Some t) None = refl
entity_keys (Some p) (Some s) (Some t) (Some e) = refl

choice_keys : (ids : Json) (external : Option Json)
    → are_apart (keys (member (codes "enum") ids (optional_member (codes "external") external no_members))) ≡ true
choice_keys ids None = refl
choice_keys ids (Some e) = refl

entity_unique_by : (body : EntityBody) (flag : Bool) → SoundBody body
    → HasUniqueKeys (object (body_members body (optional_member (codes "external") (flag_held false flag) no_members)))
entity_unique_by (standard parents shape tags) flag sound =
    let outside = optional_member (codes "external") (flag_held false flag) no_members in
    let tagged = optional_member (codes "tags") (option_map type_document tags) outside in
    let shaped = optional_member (codes "shape") (shape_held shape) tagged in (
      apart _ (entity_keys (parents_held parents) (shape_held shape) (option_map type_document tags) (flag_held false flag)),
      optional_unique (codes "memberOfTypes") (parents_held parents) shaped (parents_unique parents)
          (optional_unique (codes "shape") (shape_held shape) tagged (shape_unique shape sound.1)
          (optional_unique (codes "tags") (option_map type_document tags) outside (tags_unique tags sound.2)
          (optional_unique (codes "external") (flag_held false flag) no_members (flag_unique false flag) tt))),
    )
entity_unique_by (enumerated ids) flag sound = (
  apart (keys (member (codes "enum") (text_array ids) (optional_member (codes "external") (flag_held false flag) no_members))) (choice_keys (text_array ids) (flag_held false flag)),
  (texts_unique ids, optional_unique (codes "external") (flag_held false flag) no_members (flag_unique false flag) tt),
)
entity_unique_by (external parents) flag sound = absurd sound

parent_unique : (it : WrittenParent) → HasUniqueKeys (parent_document it)
parent_unique (id, None) = (apart (codes "id" ∷ []) refl, (tt, tt))
parent_unique (id, Some ty) = (apart (codes "id" ∷ codes "type" ∷ []) refl, (tt, (tt, tt)))

parent_items_unique : (parents : List WrittenParent) → HasUniqueKeys (parent_array parents)
parent_items_unique [] = tt
parent_items_unique (first ∷ rest) = (parent_unique first, parent_items_unique rest)

requests_keys : (principals resources : Json) (context : Option Json)
    → are_apart (keys (member (codes "principalTypes") principals (member (codes "resourceTypes") resources
    (optional_member (codes "context") context no_members)))) ≡ true
requests_keys p r None = refl
requests_keys p r (Some c) = refl

requests_unique : (it : Requests) → SoundRequests it → HasUniqueKeys (requests_document it)
requests_unique (requests principals resources context) sound = (
  apart (keys (member (codes "principalTypes") (reference_array principals) (member (codes "resourceTypes") (reference_array resources)
      (optional_member (codes "context") (shape_held context) no_members)))) (requests_keys (reference_array principals) (reference_array resources) (shape_held context)),
  (
    texts_unique (map reference_text principals),
    (
      texts_unique (map reference_text resources),
      optional_unique (codes "context") (shape_held context) no_members (shape_unique context sound.2) tt,
    ),
  ),
)
requests_unique elsewhere sound = absurd sound

pairs_unique : (it : Pairs) → SoundPairs it → pairs_flaws it ≡ [] → HasUniqueKeys (pairs_document it)
unfolding SoundValue
pairs_unique it sound flawless = (
  subst AreDistinct (sym (value_keys_of (entries_from it))) (in_order-apart (entry_names (entries_from it)) sound.0),
  entries_unique (entries_from it) sound.1 flawless,
)

optional_requests : (o : Option Requests) → IfThere SoundRequests o → IfThere HasUniqueKeys (option_map requests_document o)
optional_requests None sound = tt
optional_requests (Some it) sound = requests_unique it sound

optional_pairs : (o : Option Pairs) → IfThere SoundPairs o → flaws_in pairs_flaws o ≡ [] → IfThere HasUniqueKeys (option_map pairs_document o)
optional_pairs None sound flawless = tt
optional_pairs (Some it) sound flawless = pairs_unique it sound flawless

optional_parents : (o : Option (List WrittenParent)) → IfThere HasUniqueKeys (option_map parent_array o)
optional_parents None = tt
optional_parents (Some it) = parent_items_unique it

action_keys : (applies_to member_of attributes external : Option Json)
    → are_apart (keys (optional_member (codes "appliesTo") applies_to (optional_member (codes "memberOf") member_of
    (optional_member (codes "attributes") attributes (optional_member (codes "external") external no_members))))) ≡ true
action_keys None None None None = refl
action_keys None None None (Some e) = refl
action_keys None None (Some a) None = refl
action_keys None None (Some a) (Some e) = refl
action_keys None (Some m) None None = refl
action_keys None (Some m) None (Some e) = refl
action_keys None (Some m) (Some a) None = refl
action_keys None (Some m) (Some a) (Some e) = refl
action_keys (Some r) None None None = refl
action_keys (Some r) None None (Some e) = refl
action_keys (Some r) None (Some a) None = refl
action_keys (Some r) None (Some a) (Some e) = refl
action_keys (Some r) (Some m) None None = refl
action_keys (Some r) (Some m) None (Some e) = refl
action_keys (Some r) (Some m) (Some a) None = refl
action_keys (Some r) (Some m) (Some a) (Some e) = refl

action_unique : (it : WrittenAction) → SoundAction it → action_flaws it ≡ [] → HasUniqueKeys (action_document it)
action_unique it sound flawless =
    let both = both_none (flaws_in requests_flaws it.applies_to) (flaws_in pairs_flaws it.attributes) flawless in
    let flag = flag_held false it.external in
    let outside = optional_member (codes "external") flag no_members in
    let described = optional_member (codes "attributes") (option_map pairs_document it.attributes) outside in
    let grouped = optional_member (codes "memberOf") (option_map parent_array it.member_of) described in (
      apart _ (action_keys (option_map requests_document it.applies_to) (option_map parent_array it.member_of) (option_map pairs_document it.attributes) flag),
      optional_unique (codes "appliesTo") (option_map requests_document it.applies_to) grouped (optional_requests it.applies_to sound.applies_to)
          (optional_unique (codes "memberOf") (option_map parent_array it.member_of) described (optional_parents it.member_of)
          (optional_unique (codes "attributes") (option_map pairs_document it.attributes) outside (optional_pairs it.attributes sound.attributes both.1)
          (optional_unique (codes "external") flag no_members (flag_unique false it.external) tt))),
    )

-- entries that are written each under the text of its key
module _ {K A : Type 0} (text : K → Text) (document : A → Json) where
  abbrev written : List (K × A) → List (Text × Json)
  written entries = map (λ entry. (text entry.0, document entry.1)) entries

  written_keys : (entries : List (K × A)) → keys (keyed_members (written entries)) ≡ map (λ entry. text entry.0) entries
  written_keys [] = refl
  written_keys (item ∷ rest) = ap (λ names. text item.0 ∷ names) (written_keys rest)

  written_unique : (Sound : A → Type 0) (flaws : A → List Flaw) → ((it : A) → Sound it → flaws it ≡ [] → HasUniqueKeys (document it))
      → (entries : List (K × A)) → Each (λ entry. Sound entry.1) entries → declared_flaws flaws entries ≡ []
      → MembersHaveUniqueKeys (keyed_members (written entries))
  written_unique Sound flaws unique [] sound flawless = tt
  written_unique Sound flaws unique (item ∷ rest) sound flawless =
      let both = both_none (flaws item.1) (declared_flaws flaws rest) flawless in
      (unique item.1 sound.0 both.0, written_unique Sound flaws unique rest sound.1 both.1)

module _ {A : Type 0} (key : Text → Option Text) (document : A → Json)
    (Sound : A → Type 0) (flaws : A → List Flaw) (unique : (it : A) → Sound it → flaws it ≡ [] → HasUniqueKeys (document it)) where
  declared_unique : (entries : List (Text × A)) → SoundDeclarations key Sound entries → declared_flaws flaws entries ≡ []
      → HasUniqueKeys (object (declared_members document entries))
  declared_unique entries sound flawless = (
    subst AreDistinct (sym (written_keys (λ id. id) document entries)) (in_order-apart (map (λ entry. entry.0) entries) sound.in_order),
    written_unique (λ id. id) document Sound flaws unique entries sound.each flawless,
  )

common_types_unique : (entries : List (Text × Expr)) → SoundDeclarations common_key SoundType entries
    → declared_flaws type_flaws entries ≡ [] → IfThere HasUniqueKeys (common_types_held entries)
common_types_unique [] sound flawless = tt
common_types_unique (first ∷ rest) sound flawless =
    declared_unique common_key type_document SoundType type_flaws (λ ty is none. type_unique ty is) (first ∷ rest) sound flawless

definition_keys : (entity_types actions : Json) (common_types : Option Json)
    → are_apart (keys (member (codes "entityTypes") entity_types (member (codes "actions") actions
    (optional_member (codes "commonTypes") common_types no_members)))) ≡ true
definition_keys e a None = refl
definition_keys e a (Some c) = refl

definition_unique : (it : WrittenDefinition) → SoundDefinition it → definition_flaws it ≡ [] → HasUniqueKeys (definition_document it)
definition_unique it sound flawless =
    let commons = both_none (declared_flaws type_flaws it.common_types)
    (declared_flaws (λ (entity : WrittenEntity). body_flaws entity.body) it.entity_types ++ declared_flaws action_flaws it.actions) flawless in
    let both = both_none (declared_flaws (λ (entity : WrittenEntity). body_flaws entity.body) it.entity_types) (declared_flaws action_flaws it.actions) commons.1 in (
      apart (keys (member (codes "entityTypes") (object (declared_members entity_type_document it.entity_types))
          (member (codes "actions") (object (declared_members action_document it.actions))
          (optional_member (codes "commonTypes") (common_types_held it.common_types) no_members)))) (definition_keys (object (declared_members entity_type_document it.entity_types)) (object (declared_members action_document it.actions))
          (common_types_held it.common_types)),
      (
        declared_unique id_key entity_type_document (λ entity. SoundBody entity.body) (λ entity. body_flaws entity.body)
            (λ entity is none. entity_unique_by entity.body entity.external is) it.entity_types sound.entity_types both.0,
        (
          declared_unique Some action_document SoundAction action_flaws action_unique it.actions sound.actions both.1,
          optional_unique (codes "commonTypes") (common_types_held it.common_types) no_members
              (common_types_unique it.common_types sound.common_types commons.0) tt,
        ),
      ),
    )

-- the texts of different namespaces differ
texts_differ : (a b : Option PlainName) → IfThere IsPlain a → IfThere IsPlain b → option_cmp name_cmp a b ≡ Less
    → namespace_text a ≢ namespace_text b
texts_differ a b plain other less same =
    let names : Some a ≡ Some b = sym (namespace_back a plain) ∙ ap namespace_key same ∙ namespace_back b other in
    let equal : a ≡ b = cc in
    not_itself (option_cmp name_cmp) (options_total name_cmp-total) a b equal less

namespaces_differ : (name : Option PlainName) (rest : WrittenFragment) → IfThere IsPlain name → Each (λ entry. IfThere IsPlain entry.0) rest
    → AllByRecursion (λ other. option_cmp name_cmp name other ≡ Less) (map (λ entry. entry.0) rest)
    → All (λ other. namespace_text name ≢ other) (map (λ entry. namespace_text entry.0) rest)
namespaces_differ name [] plain all below = All-nil (λ other. namespace_text name ≢ other)
namespaces_differ name (item ∷ rest) plain all below =
    All-cons (λ other. namespace_text name ≢ other) (namespace_text item.0) (map (λ entry. namespace_text entry.0) rest)
    (texts_differ name item.0 plain all.0 below.0) (namespaces_differ name rest plain all.1 below.1)

namespaces_apart : (it : WrittenFragment) → IsStrictlySortedBy (option_cmp name_cmp) (map (λ entry. entry.0) it)
    → Each (λ entry. IfThere IsPlain entry.0) it → AreDistinct (map (λ entry. namespace_text entry.0) it)
namespaces_apart [] sorted all = none_apart
namespaces_apart (item ∷ rest) sorted all =
    AllPairs-cons (λ a b. a ≢ b) (namespace_text item.0) (map (λ entry. namespace_text entry.0) rest)
    (namespaces_differ item.0 rest all.0 all.1 (sorted_head (option_cmp name_cmp) item.0 (map (λ entry. entry.0) rest) sorted))
    (namespaces_apart rest (sorted_tail (option_cmp name_cmp) item.0 (map (λ entry. entry.0) rest) sorted) all.1)

-- in what is written of a fragment no object has a key twice
pub fragment_unique : (it : WrittenFragment) → SoundFragment it → parts_flaws it ≡ [] → HasUniqueKeys (fragment_document it)
fragment_unique it sound flawless = (
  subst AreDistinct (sym (written_keys namespace_text definition_document it)) (namespaces_apart it sound.in_order sound.named),
  written_unique namespace_text definition_document SoundDefinition definition_flaws definition_unique it sound.each flawless,
)
