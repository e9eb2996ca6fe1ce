-- What is written of declarations, definitions and fragments describes them.
use Rattle.std.proofs.Common.{◌≡◌, ◌≢◌, List, [], ◌∷◌, ◌++◌, map, Bool, true, false, Option, Some, None, option_map, option_and_then, codes, refl, ap, ap₂, sym, ◌∙◌, append_assoc, append-nil}
use Rattle.std.specs.BTreeMap.{insert_entry}
use Rattle.std.specs.Cmp.{IsTotalOrder}
use Rattle.std.specs.Cmp.Lexicographic.{options_total}
use Rattle.std.specs.List.Sorted.{IsStrictlySortedBy}
use Rattle.std.specs.Map.{keys_of}
use Rattle.std.specs.declared.cmp.Ordering.{Ordering}
use Rattle.cedar_ast.proofs.PlainNames.{name_cmp-total}
use Rattle.cedar_ast.proofs.Texts.{text_cmp-total}
use Rattle.cedar_json.proofs.NameLemmas.{spelled_name-text}
use Rattle.cedar_json.specs.DefinitionFormat.{entries_of}
use Rattle.cedar_json_writer.proofs.TypeReadBack.{common_type_back, shape_back, type_back}
use Rattle.cedar_json_writer.proofs.ValueReadBack.{entries_back, listed, plain_name-back}
use Rattle.cedar_json_writer.proofs.WrittenOrder.{both_none, put-last, still_sorted}
use Rattle.cedar_json_writer.specs.Words.{Each, Entity, EntityBody, Expr, Flaw, IfThere, IsPlain, IsWrittenEntity, Pairs, PlainName, Reference, Requests, SoundAction, SoundBody, SoundDeclarations, SoundDefinition, SoundFragment, SoundPairs, SoundParent, SoundRequests, SoundType, SoundValue, Text, WrittenAction, WrittenDefinition, WrittenEntity, WrittenFragment, WrittenParent, action_by, action_document, action_flaws, action_of, actions_in, all_of, at_least_one, body_flaws, body_members, choices_in, common_key, common_type_of, common_types_held, common_types_in, declared_flaws, declared_members, definition_by, definition_document, definition_flaws, definition_of, elsewhere, entity_by, entity_of, entity_reference, entity_type_document, entity_types_in, entries_from, enumerated, external, field_or, flag_held, flag_or, flaws_in, fragment_document, fragment_of, id_key, keyed_members, name_text, namespace_key, namespace_text, optional, optional_member, pairs_document, pairs_flaws, pairs_in, parent_array, parent_by, parent_document, parent_of, parents_held, parents_in, parents_of, parts_flaws, plain_name_in, reference_array, reference_text, reference_to, references_in, requests, requests_by, requests_document, requests_flaws, requests_of, shape_held, shape_in, standard, standard_by, tags_in, text_array, text_cmp, type_document, type_flaws}
use Rattle.json.specs.Find.{as_str}
use Rattle.json.specs.Json.{Json, string, object, no_members, member}
use Rattle.json.specs.Value.{items_of}

-- what is written of a reference to an entity type describes it
reference_back : (reference : Reference) → IsWrittenEntity reference → entity_reference (string (reference_text reference)) ≡ Some reference
reference_back reference (name, ids, is) =
    ap (λ r. entity_reference (string (reference_text r))) is ∙ ap (option_map (reference_to None Entity)) (spelled_name-text name ids) ∙ ap Some (sym is)

references_back : (references : List Reference) → Each IsWrittenEntity references → references_in (reference_array references) ≡ Some references
references_back [] sound = refl
references_back (first ∷ rest) sound =
    ap₂ (λ one others. option_and_then (λ it. option_map (λ more. it ∷ more) others) one) (reference_back first sound.0) (references_back rest sound.1)

texts_back : (texts : List Text) → all_of as_str (items_of (map string texts)) ≡ Some texts
texts_back [] = refl
texts_back (first ∷ rest) = ap (option_map (λ others. first ∷ others)) (texts_back rest)

choices_back : (ids : List Text) → ids ≢ [] → choices_in (text_array ids) ≡ Some ids
choices_back [] some = absurd (some refl)
choices_back (first ∷ rest) some = ap (option_and_then at_least_one) (texts_back (first ∷ rest))

parents_back : (parents : List Reference) → Each IsWrittenEntity parents → parents_in (parents_held parents) ≡ Some parents
parents_back [] sound = refl
parents_back (first ∷ rest) sound = references_back (first ∷ rest) sound

tags_back : (tags : Option Expr) → IfThere SoundType tags → flaws_in type_flaws tags ≡ [] → tags_in (option_map type_document tags) ≡ Some tags
tags_back None sound flawless = refl
tags_back (Some ty) sound flawless = ap (option_map Some) (type_back ty sound flawless)

flag_back : (flag : Bool) → flag_or false (flag_held false flag) ≡ Some flag
flag_back true = refl
flag_back false = refl

-- the fields that are written of an entity type are those that are read
entity_fields : (parents shape tags external : Option Json)
    → entity_of (object (optional_member (codes "memberOfTypes") parents (optional_member (codes "shape") shape
    (optional_member (codes "tags") tags (optional_member (codes "external") external no_members)))))
    ≡ entity_by (standard_by (parents_in parents) (shape_in shape) (tags_in tags)) (flag_or false external) true
entity_fields None None None None = refl
entity_fields None None None (Some e) = refl
entity_fields None None (Some t) None = refl
entity_fields None None (Some t) (Some e) = refl
entity_fields None (Some s) None None = refl
entity_fields None (Some s) None (Some e) = refl
entity_fields None (Some s) (Some t) None = refl
entity_fields None (Some s) (Some t) (Some e) = refl
entity_fields (Some p) None None None = refl
entity_fields (Some p) None None (Some e) = refl
entity_fields (Some p) None (Some t) None = refl
entity_fields (Some p) None (Some t) (Some e) = refl
entity_fields (Some p) (Some s) None None = refl
entity_fields (Some p) (Some s) None (Some e) = refl
entity_fields (Some p) (Some s) (Some t) None = refl
entity_fields (Some p) (Some s) (Some t) (Some e) = refl

entity_back_by : (body : EntityBody) (flag : Bool) → SoundBody body → body_flaws body ≡ []
    → entity_of (object (body_members body (optional_member (codes "external") (flag_held false flag) no_members)))
    ≡ Some (record { body = body; external = flag })
entity_back_by (standard parents shape tags) flag sound flawless =
    let both = both_none (type_flaws shape) (flaws_in type_flaws tags) flawless in
    entity_fields (parents_held parents) (shape_held shape) (option_map type_document tags) (flag_held false flag)
    ∙ ap (λ p. entity_by (standard_by p (shape_in (shape_held shape)) (tags_in (option_map type_document tags))) (flag_or false (flag_held false flag)) true)
    (parents_back parents sound.0)
    ∙ ap (λ s. entity_by (standard_by (Some parents) s (tags_in (option_map type_document tags))) (flag_or false (flag_held false flag)) true)
    (shape_back shape sound.1 both.0)
    ∙ ap (λ t. entity_by (standard_by (Some parents) (Some shape) t) (flag_or false (flag_held false flag)) true) (tags_back tags sound.2 both.1)
    ∙ ap (λ e. entity_by (Some (standard parents shape tags)) e true) (flag_back flag)
entity_back_by (enumerated ids) true sound flawless =
    ap (λ (o : Option (List Text)). entity_by (option_map enumerated o) (Some true) true) (choices_back ids sound)
entity_back_by (enumerated ids) false sound flawless =
    ap (λ (o : Option (List Text)). entity_by (option_map enumerated o) (Some false) true) (choices_back ids sound)
entity_back_by (external parents) flag sound flawless = absurd sound

-- what is written of an entity type describes it
entity_back : (it : WrittenEntity) → SoundBody it.body → body_flaws it.body ≡ [] → entity_of (entity_type_document it) ≡ Some it
entity_back it sound flawless = entity_back_by it.body it.external sound flawless

parent_back : (it : WrittenParent) → SoundParent it → parent_of (parent_document it) ≡ Some it
parent_back (id, None) sound = refl
parent_back (id, Some ty) sound =
    ap (λ (o : Option Reference). parent_by (Some id) (option_map Some o)) (reference_back ty sound)

parents_of-back : (parents : List WrittenParent) → Each SoundParent parents → parents_of (parent_array parents) ≡ Some parents
parents_of-back [] sound = refl
parents_of-back (first ∷ rest) sound =
    ap₂ (λ one others. option_and_then (λ it. option_map (λ more. it ∷ more) others) one) (parent_back first sound.0) (parents_of-back rest sound.1)

requests_fields : (principals resources : Json) (context : Option Json)
    → requests_of (object (member (codes "principalTypes") principals (member (codes "resourceTypes") resources
    (optional_member (codes "context") context no_members))))
    ≡ requests_by (references_in principals) (references_in resources) (shape_in context)
requests_fields p r None = refl
requests_fields p r (Some c) = refl

requests_back : (it : Requests) → SoundRequests it → requests_flaws it ≡ [] → requests_of (requests_document it) ≡ Some it
requests_back (requests principals resources context) sound flawless =
    requests_fields (reference_array principals) (reference_array resources) (shape_held context)
    ∙ ap (λ p. requests_by p (references_in (reference_array resources)) (shape_in (shape_held context))) (references_back principals sound.0)
    ∙ ap (λ r. requests_by (Some principals) r (shape_in (shape_held context))) (references_back resources sound.1)
    ∙ ap (requests_by (Some principals) (Some resources)) (shape_back context sound.2 flawless)
requests_back elsewhere sound flawless = absurd sound

listed-from : (pairs : Pairs) → listed (entries_from pairs) ≡ pairs
listed-from [] = refl
listed-from (first ∷ rest) = ap (λ others. first ∷ others) (listed-from rest)

pairs_back : (it : Pairs) → SoundPairs it → pairs_flaws it ≡ [] → pairs_in (pairs_document it) ≡ Some it
unfolding SoundValue
pairs_back it sound flawless = entries_back (entries_from it) [] sound.0 sound.1 flawless ∙ ap Some (listed-from it)

optional_requests : (o : Option Requests) → IfThere SoundRequests o → flaws_in requests_flaws o ≡ []
    → optional requests_of (option_map requests_document o) ≡ Some o
optional_requests None sound flawless = refl
optional_requests (Some (requests principals resources context)) sound flawless =
    ap (option_map Some) (requests_back (requests principals resources context) sound flawless)
optional_requests (Some elsewhere) sound flawless = absurd sound

optional_pairs : (o : Option Pairs) → IfThere SoundPairs o → flaws_in pairs_flaws o ≡ []
    → optional pairs_in (option_map pairs_document o) ≡ Some o
optional_pairs None sound flawless = refl
optional_pairs (Some pairs) sound flawless = ap (option_map Some) (pairs_back pairs sound flawless)

optional_parents : (o : Option (List WrittenParent)) → IfThere (Each SoundParent) o → optional parents_of (option_map parent_array o) ≡ Some o
optional_parents None sound = refl
optional_parents (Some parents) sound = ap (option_map Some) (parents_of-back parents sound)

-- the fields that are written of an action are those that are read
action_fields : (applies_to member_of attributes external : Option Json)
    → action_of (object (optional_member (codes "appliesTo") applies_to (optional_member (codes "memberOf") member_of
    (optional_member (codes "attributes") attributes (optional_member (codes "external") external no_members)))))
    ≡ action_by (optional pairs_in attributes) (optional requests_of applies_to) (optional parents_of member_of) (flag_or false external)
action_fields None None None None = refl
action_fields None None None (Some e) = refl
action_fields None None (Some a) None = refl
action_fields None None (Some a) (Some e) = refl
action_fields None (Some m) None None = refl
action_fields None (Some m) None (Some e) = refl
action_fields None (Some m) (Some a) None = refl
action_fields None (Some m) (Some a) (Some e) = refl
action_fields (Some r) None None None = refl
action_fields (Some r) None None (Some e) = refl
action_fields (Some r) None (Some a) None = refl
action_fields (Some r) None (Some a) (Some e) = refl
action_fields (Some r) (Some m) None None = refl
action_fields (Some r) (Some m) None (Some e) = refl
action_fields (Some r) (Some m) (Some a) None = refl
action_fields (Some r) (Some m) (Some a) (Some e) = refl

-- what is written of an action describes it
action_back : (it : WrittenAction) → SoundAction it → action_flaws it ≡ [] → action_of (action_document it) ≡ Some it
action_back it sound flawless =
    let both = both_none (flaws_in requests_flaws it.applies_to) (flaws_in pairs_flaws it.attributes) flawless in
    let requested = optional_requests it.applies_to sound.applies_to both.0 in
    let grouped = optional_parents it.member_of sound.member_of in
    let described = optional_pairs it.attributes sound.attributes both.1 in
    let flag = flag_held false it.external in
    action_fields (option_map requests_document it.applies_to) (option_map parent_array it.member_of) (option_map pairs_document it.attributes) flag
    ∙ ap (λ a. action_by a (optional requests_of (option_map requests_document it.applies_to)) (optional parents_of (option_map parent_array it.member_of))
    (flag_or false flag)) described
    ∙ ap (λ r. action_by (Some it.attributes) r (optional parents_of (option_map parent_array it.member_of)) (flag_or false flag)) requested
    ∙ ap (λ m. action_by (Some it.attributes) (Some it.applies_to) m (flag_or false flag)) grouped
    ∙ ap (action_by (Some it.attributes) (Some it.applies_to) (Some it.member_of)) (flag_back it.external)

-- entries that are written each under the text of its key
module _ {K A : Type 0} {R : K → K → Ordering} (total : IsTotalOrder R) (key : Text → Option K) (text : K → Text)
    (describes : Json → Option A) (document : A → Json) where
  -- the key and the value are read back
  abbrev IsBack : K × A → Type 0
  IsBack entry = (key (text entry.0) ≡ Some entry.0) × (describes (document entry.1) ≡ Some entry.1)

  abbrev written : List (K × A) → List (Text × Json)
  written entries = map (λ entry. (text entry.0, document entry.1)) entries

  pub declared_back : (entries before : List (K × A)) → IsStrictlySortedBy R (keys_of before ++ keys_of entries) → Each IsBack entries
      → entries_of R key describes (keyed_members (written entries)) before ≡ Some (before ++ entries)
  declared_back [] before sorted each = ap Some (sym (append-nil before))
  declared_back (entry ∷ rest) before sorted each =
      let others = keyed_members (written rest) in
      ap (λ k. option_and_then (λ l. option_and_then (λ it. entries_of R key describes others (insert_entry R before l it))
      (describes (document entry.1))) k) each.0.0
      ∙ ap (option_and_then (λ it. entries_of R key describes others (insert_entry R before entry.0 it))) each.0.1
      ∙ ap (entries_of R key describes others) (put-last total before entry.0 entry.1 (keys_of rest) sorted)
      ∙ declared_back rest (before ++ entry ∷ []) (still_sorted total before entry.0 entry.1 (keys_of rest) sorted) each.1
      ∙ ap Some (append_assoc before (entry ∷ []) rest)

  -- where the keys and the values are sound, and nothing can't be written
  pub each_back : (Sound : A → Type 0) (flaws : A → List Flaw)
      → ((it : A) → Sound it → flaws it ≡ [] → describes (document it) ≡ Some it)
      → (entries : List (K × A)) → Each (λ entry. key (text entry.0) ≡ Some entry.0) entries
      → Each (λ entry. Sound entry.1) entries → declared_flaws flaws entries ≡ [] → Each IsBack entries
  each_back Sound flaws back [] keyed sound flawless = tt
  each_back Sound flaws back (entry ∷ rest) keyed sound flawless =
      let both = both_none (flaws entry.1) (declared_flaws flaws rest) flawless in
      ((keyed.0, back entry.1 sound.0 both.0), each_back Sound flaws back rest keyed.1 sound.1 both.1)

-- declarations under ids
module _ {A : Type 0} (key : Text → Option Text) (describes : Json → Option A) (document : A → Json)
    (Sound : A → Type 0) (flaws : A → List Flaw) (back : (it : A) → Sound it → flaws it ≡ [] → describes (document it) ≡ Some it) where
  declarations_back : (entries : List (Text × A)) → SoundDeclarations key Sound entries → declared_flaws flaws entries ≡ []
      → entries_of text_cmp key describes (declared_members document entries) [] ≡ Some entries
  declarations_back entries sound flawless =
      declared_back text_cmp-total key (λ id. id) describes document entries [] sound.in_order
      (each_back text_cmp-total key (λ id. id) describes document Sound flaws back entries sound.under_ids sound.each flawless)

common_types_back : (entries : List (Text × Expr)) → SoundDeclarations common_key SoundType entries → declared_flaws type_flaws entries ≡ []
    → field_or [] common_types_in (common_types_held entries) ≡ Some entries
common_types_back [] sound flawless = refl
common_types_back (first ∷ rest) sound flawless =
    declarations_back common_key common_type_of type_document SoundType type_flaws common_type_back (first ∷ rest) sound flawless

definition_fields : (entity_types actions : Json) (common_types : Option Json)
    → definition_of (object (member (codes "entityTypes") entity_types (member (codes "actions") actions
    (optional_member (codes "commonTypes") common_types no_members))))
    ≡ definition_by (field_or [] common_types_in common_types) (entity_types_in entity_types) (actions_in actions)
definition_fields e a None = refl
definition_fields e a (Some c) = refl

-- what is written of a definition describes it
definition_back : (it : WrittenDefinition) → SoundDefinition it → definition_flaws it ≡ [] → definition_of (definition_document it) ≡ Some it
definition_back it sound flawless =
    let commons = both_none (declared_flaws type_flaws it.common_types)
    (declared_flaws (λ (entity : WrittenEntity). body_flaws entity.body) it.entity_types ++ declared_flaws action_flaws it.actions) flawless in
    let both = both_none (declared_flaws (λ (entity : WrittenEntity). body_flaws entity.body) it.entity_types) (declared_flaws action_flaws it.actions) commons.1 in
    let entities = object (declared_members entity_type_document it.entity_types) in
    let actions = object (declared_members action_document it.actions) in
    definition_fields entities actions (common_types_held it.common_types)
    ∙ ap (λ c. definition_by c (entity_types_in entities) (actions_in actions)) (common_types_back it.common_types sound.common_types commons.0)
    ∙ ap (λ e. definition_by (Some it.common_types) e (actions_in actions))
    (declarations_back id_key entity_of entity_type_document (λ entity. SoundBody entity.body) (λ entity. body_flaws entity.body)
    entity_back it.entity_types sound.entity_types both.0)
    ∙ ap (definition_by (Some it.common_types) (Some it.entity_types))
    (declarations_back Some action_of action_document SoundAction action_flaws action_back it.actions sound.actions both.1)

named_by : (text : Text) (name : PlainName) → plain_name_in text ≡ Some name → namespace_key text ≡ Some (Some name)
named_by [] name e = absurd (cc)
named_by (byte ∷ rest) name e = ap (option_map Some) e

-- what is written of a namespace names it
pub namespace_back : (name : Option PlainName) → IfThere IsPlain name → namespace_key (namespace_text name) ≡ Some name
namespace_back None plain = refl
namespace_back (Some name) plain = named_by (name_text name) name (plain_name-back name plain)

namespaces_back : (it : WrittenFragment) → Each (λ entry. IfThere IsPlain entry.0) it
    → Each (λ entry. namespace_key (namespace_text entry.0) ≡ Some entry.0) it
namespaces_back [] named = tt
namespaces_back (entry ∷ rest) named = (namespace_back entry.0 named.0, namespaces_back rest named.1)

-- what is written of a fragment describes it, where nothing of its parts can't be written
pub fragment_back : (it : WrittenFragment) → SoundFragment it → parts_flaws it ≡ [] → fragment_of (fragment_document it) ≡ Some it
fragment_back it sound flawless =
    declared_back (options_total name_cmp-total) namespace_key namespace_text definition_of definition_document it [] sound.in_order
    (each_back (options_total name_cmp-total) namespace_key namespace_text definition_of definition_document SoundDefinition definition_flaws
    definition_back it (namespaces_back it sound.named) sound.each flawless)
