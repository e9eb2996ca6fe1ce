-- What is written of entities and of requests.
use Rattle.std.proofs.Common.{◌≡◌, ◌≢◌, List, [], ◌∷◌, ◌++◌, codes, length, map, string_bytes, Global, String, Option, Some, refl, ap, sym, subst}
use Rattle.std.specs.BTreeMap.{BTreeMap}
use Rattle.cedar_json.proofs.ListLemmas.{no_length}
use Rattle.cedar_json_writer.proofs.WritingLemmas.{field_absent, field_added, fields_after, items_from, object_added}
use Rattle.cedar_json_writer.specs.Words.{AddsField, AddsValue, Pairs, PlainUid, Value, optional_member, pairs_document, pairs_flaws, tags_held, tree_of, uid_array, uid_document, value_expr, value_flaws, written_pairs}
use Rattle.json.specs.Json.{Json, array, object, item, no_members, member}
use Rattle.json.specs.Token.{Token, begin_object, end_object, key}
use Rattle.json.specs.Value.{items_of}

uids-items : (uids : List PlainUid) → items_from uid_document uids ≡ items_of (map uid_document uids)
uids-items [] = refl
uids-items (uid ∷ rest) = ap (item (uid_document uid)) (uids-items rest)

-- the array of uids
pub uids_added : (old new : List Token) (uids : List PlainUid) → AddsValue old new (array (items_from uid_document uids)) → AddsValue old new (uid_array uids)
uids_added old new uids added = subst (λ js. AddsValue old new (array js)) (uids-items uids) added

abbrev Tags : Type 0
Tags = BTreeMap (String Global) Value

no_tags : (tags : Tags) → length tags.entries ≡ 0 → written_pairs tags ≡ []
no_tags tags none = ap (map (λ entry. (string_bytes entry.0, tree_of (value_expr entry.1)))) (no_length tags.entries none)

-- of no tags nothing is written, and all can be
pub tags_absent : (old new : List Token) (tags : Tags) → length tags.entries ≡ 0 → new ≡ old
    → AddsField old new (codes "tags") (tags_held (written_pairs tags))
tags_absent old new tags none same =
    subst (λ (pairs : Pairs). AddsField old new (codes "tags") (tags_held pairs)) (sym (no_tags tags none)) (field_absent old new (codes "tags") same)

pub tags_free : (tags : Tags) → length tags.entries ≡ 0 → pairs_flaws (written_pairs tags) ≡ []
unfolding value_flaws
tags_free tags none = ap pairs_flaws (no_tags tags none)

-- where there are some they are written
pub some_tags : (old new : List Token) (tags : Tags) → length tags.entries ≢ 0 → AddsField old new (codes "tags") (Some (pairs_document (written_pairs tags)))
    → AddsField old new (codes "tags") (tags_held (written_pairs tags))
some_tags old new tags some added = by tags.entries some added
  where
    by : (entries : List (String Global × Value)) → length entries ≢ 0
        → AddsField old new (codes "tags") (Some (pairs_document (map (λ entry. (string_bytes entry.0, tree_of (value_expr entry.1))) entries)))
        → AddsField old new (codes "tags") (tags_held (map (λ entry. (string_bytes entry.0, tree_of (value_expr entry.1))) entries))
    by [] filled is = absurd (filled refl)
    by (entry ∷ rest) filled is = is

-- the object of an entity
pub entity_added : (old one two listed three inside new : List Token) (uid attributes ancestors : Json) (tags : Option Json)
    → AddsField (old ++ begin_object ∷ []) one (codes "uid") (Some uid)
    → AddsField one two (codes "attrs") (Some attributes) → listed ≡ two ++ key (codes "parents") ∷ []
    → AddsValue listed three ancestors → AddsField three inside (codes "tags") tags → new ≡ inside ++ end_object ∷ []
    → AddsValue old new (object (member (codes "uid") uid (member (codes "attrs") attributes (member (codes "parents") ancestors
    (optional_member (codes "tags") tags no_members)))))
entity_added old one two listed three inside new uid attributes ancestors tags first second is_listed third fourth ended =
    let opened = old ++ begin_object ∷ [] in
    let u = optional_member (codes "uid") (Some uid) in
    let a = optional_member (codes "attrs") (Some attributes) in
    let p = optional_member (codes "parents") (Some ancestors) in
    let t = optional_member (codes "tags") tags in
    object_added old opened inside new (λ rest. u (a (p (t rest)))) refl
    (fields_after opened three inside (λ rest. u (a (p rest))) t
    (fields_after opened two three (λ rest. u (a rest)) p
    (fields_after opened one two u a first second)
    (field_added two listed three (codes "parents") ancestors is_listed third)) fourth) ended

-- the object of a request
pub request_added : (old opened one two three inside new : List Token) (principal action resource context : Json)
    → opened ≡ old ++ begin_object ∷ [] → AddsField opened one (codes "principal") (Some principal) → AddsField one two (codes "action") (Some action)
    → AddsField two three (codes "resource") (Some resource) → AddsField three inside (codes "context") (Some context)
    → new ≡ inside ++ end_object ∷ []
    → AddsValue old new (object (member (codes "principal") principal (member (codes "action") action (member (codes "resource") resource
    (member (codes "context") context no_members)))))
request_added old opened one two three inside new principal action resource context begun first second third fourth ended =
    let p = optional_member (codes "principal") (Some principal) in
    let a = optional_member (codes "action") (Some action) in
    let r = optional_member (codes "resource") (Some resource) in
    let c = optional_member (codes "context") (Some context) in
    object_added old opened inside new (λ rest. p (a (r (c rest)))) begun
    (fields_after opened three inside (λ rest. p (a (r rest))) c
    (fields_after opened two three (λ rest. p (a rest)) r (fields_after opened one two p a first second) third) fourth) ended
