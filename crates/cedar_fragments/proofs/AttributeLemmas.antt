-- The ids of actions that are written with attributes.
use Rattle.std.proofs.Common.{vec_len, ◌==◌, eq-eqb, ◌≡◌, ◌≢◌, length, ◌⊎◌, ◌↔◌, Bool, true, false, List, [], ◌∷◌, ◌++◌, map, ap, sym, subst, ◌∙◌, refl, inl, inr, append_assoc, Contains, Option, None, Some, string_bytes, arith}
use Rattle.std.proofs.lemmas.Bool.{false≢true}
use Rattle.std.proofs.lemmas.List.{append-nil, map-append}
use Rattle.std.proofs.lemmas.List.Elements.{Contains-append_left, Contains-append_right, Contains-append_cases}
use Rattle.std.proofs.lemmas.Simd.{map-map}
use Rattle.std.specs.List.{AllByRecursion}
use Rattle.std.specs.List.Sorted.{IsStrictlySortedBy}
use Rattle.std.specs.Map.{keys_of}
use Rattle.std.specs.Option.{is_some}
use Rattle.std.specs.String.{string_cmp}
use Rattle.std.specs.declared.alloc.Global.{Global}
use Rattle.std.specs.declared.cmp.Ordering.TheVariants.{Less}
use Rattle.std.specs.declared.string.String.{String}
use Rattle.std.specs.declared.vec.Vec.{Vec}
use Rattle.cedar_ast.proofs.Basics.{Contains-image}
use Rattle.cedar_ast.proofs.Lists.{Contains-cons, Contains-cons_cases, Contains-preimage}
use Rattle.cedar_ast.proofs.Ordered.{IsStrictlySortedBy-map}
use Rattle.cedar_fragments.specs.Words.{ActionBody, ActionType, Bag, Body, CommonType, CommonTypeId, Declaration, EntityBody, Expr, Fault, HasAttributes, IsDefinitionFault, NamesAllWithAttributes, NamesNoAttributes, PlainName, RawName, Text, UnreservedId, action, action_attributes, action_body, action_declarations, common_declarations, common_type, entity_declarations, entity_type, id_where, out_of_memory, raw_reference, text_cmp, with_attributes}
use Rattle.cedar_schema_ast.specs.declared.json_schema.entity_type.EntityType.{EntityType}

-- the actions of a definition
abbrev pub Actions : Type 0
Actions = List (String Global × ActionType RawName)

-- the id of an action where it has attributes
abbrev id_of : String Global × ActionType RawName → List Text
id_of entry = id_where (is_some entry.1.attributes) (string_bytes entry.0)

-- the ids of actions after others come after theirs
with_attributes-append : (entries others : Actions) → with_attributes (entries ++ others) ≡ with_attributes entries ++ with_attributes others
with_attributes-append [] others = refl
with_attributes-append (entry ∷ entries) others =
    ap (λ ids. id_of entry ++ ids) (with_attributes-append entries others)
    ∙ sym (append_assoc (id_of entry) (with_attributes entries) (with_attributes others))

-- of some actions the ids are listed of those with attributes, and others are left
pub record IdsSoFar (all : Actions) (ids : List (String Global)) (left : Actions) : Type 0 where
  pub done : Actions
  pub split : all ≡ done ++ left
  pub same : map string_bytes ids ≡ with_attributes done

-- at first none is listed
pub IdsSoFar-none : (all left : Actions) (ids : List (String Global)) → all ≡ left → ids ≡ [] → IdsSoFar all ids left
IdsSoFar-none all left ids same nothing = record { done = []; split = same; same = ap (map string_bytes) nothing }

-- one more is done, whose id is listed where it has attributes
ids_done : (all left rest : Actions) (ids more : List (String Global)) (id : String Global) (declared : ActionType RawName)
    → left ≡ (id, declared) ∷ rest → map string_bytes more ≡ map string_bytes ids ++ id_where (is_some declared.attributes) (string_bytes id)
    → IdsSoFar all ids left → IdsSoFar all more rest
ids_done all left rest ids more id declared is listed so_far = record {
  done = so_far.done ++ (id, declared) ∷ [];
  split = so_far.split ∙ (ap (λ others. so_far.done ++ others) is ∙ sym (append_assoc so_far.done ((id, declared) ∷ []) rest));
  same = listed ∙ ((λ i. so_far.same i ++ sym (append-nil (id_of (id, declared))) i) ∙ sym (with_attributes-append so_far.done ((id, declared) ∷ [])));
}

-- one more is done, which has attributes
pub IdsSoFar-listed : (all left rest : Actions) (ids more : List (String Global)) (id copy : String Global) (declared : ActionType RawName)
    → left ≡ (id, declared) ∷ rest → is_some declared.attributes ≡ true → string_bytes copy ≡ string_bytes id
    → more ≡ ids ++ copy ∷ [] → IdsSoFar all ids left → IdsSoFar all more rest
IdsSoFar-listed all left rest ids more id copy declared is has same pushed so_far =
    ids_done all left rest ids more id declared is
    (ap (map string_bytes) pushed ∙ (map-append string_bytes ids (copy ∷ [])
    ∙ (λ i. map string_bytes ids ++ id_where (sym has i) (same i)))) so_far

-- one more is done, which has none
pub IdsSoFar-passed : (all left rest : Actions) (ids : List (String Global)) (id : String Global) (declared : ActionType RawName)
    → left ≡ (id, declared) ∷ rest → is_some declared.attributes ≡ false → IdsSoFar all ids left → IdsSoFar all ids rest
IdsSoFar-passed all left rest ids id declared is lacks so_far =
    ids_done all left rest ids ids id declared is
    (sym (append-nil (map string_bytes ids)) ∙ (λ i. map string_bytes ids ++ id_where (sym lacks i) (string_bytes id))) so_far

-- where none is left, all are done
pub ids_all : (all left : Actions) (ids : List (String Global)) → left ≡ [] → IdsSoFar all ids left → map string_bytes ids ≡ with_attributes all
ids_all all left ids nothing so_far =
    so_far.same ∙ ap with_attributes (sym (so_far.split ∙ (ap (λ others. so_far.done ++ others) nothing ∙ append-nil so_far.done)))

-- an id that is asked for is the one
id_where-only : (asked : Bool) (id other : Text) → Contains (id_where asked id) other → (asked ≡ true) × (id ≡ other)
id_where-only true id other among = elim (Contains-cons_cases id [] other among) [ inl same ↦ (refl, same) | inr later ↦ absurd (omega (arith, later.1)) ]
id_where-only false id other among = absurd (omega (arith, among.1))

-- a listed id is that of an action with attributes
listed_action : (entries : Actions) (id : Text) → Contains (with_attributes entries) id
    → (entry : String Global × ActionType RawName) × Contains entries entry × (is_some entry.1.attributes ≡ true) × (string_bytes entry.0 ≡ id)
listed_action [] id among = absurd (omega (arith, among.1))
listed_action (entry ∷ entries) id among = elim (Contains-append_cases (id_of entry) (with_attributes entries) id among) [
  | inl here ↦
      let found = id_where-only (is_some entry.1.attributes) (string_bytes entry.0) id here in
      (entry, Contains-cons entry entries entry (inl refl), found.0, found.1)
  | inr later ↦
      let other = listed_action entries id later in
      (other.0, Contains-cons entry entries other.0 (inr other.1), other.2, other.3)
]

-- the id of an action with attributes is listed
action_listed : (entries : Actions) (entry : String Global × ActionType RawName) → Contains entries entry
    → is_some entry.1.attributes ≡ true → Contains (with_attributes entries) (string_bytes entry.0)
action_listed [] entry among has = absurd (omega (arith, among.1))
action_listed (first ∷ rest) entry among has = elim (Contains-cons_cases first rest entry among) [
  | inl same ↦ Contains-append_left (id_of first) (with_attributes rest) (string_bytes entry.0)
      (rw (same, has) (0, omega arith, refl))
  | inr later ↦ Contains-append_right (id_of first) (with_attributes rest) (string_bytes entry.0) (action_listed rest entry later has)
]

-- whether what is declared is an action with attributes
abbrev has_attributes : Body → Bool
has_attributes (action body) = body.has_attributes
has_attributes _ = false

-- the ids that are listed are just those of the actions that are declared with attributes
pub ids_exact : (namespace : Option PlainName) (entries : Actions) (id : Text)
    → Contains (with_attributes entries) id ↔ HasAttributes (action_declarations RawName (raw_reference namespace) namespace entries) namespace id
ids_exact namespace entries id = (
  λ among.
      let found = listed_action entries id among in
      let bag = action_declarations RawName (raw_reference namespace) namespace entries in
      let body = action_body RawName (raw_reference namespace) namespace found.0.1 in
      let Declares : Text → Type 0 = λ each. Contains bag (record { namespace = namespace; id = each; body = action body }) in
      (body, subst Declares found.3 (Contains-image _ entries found.0 found.1), found.2),
  λ has.
      let found = Contains-preimage _ entries _ has.1 in
      rw (ap (λ (it : Declaration). it.id) found.2) at
      (action_listed entries found.0 found.1 (ap (λ (it : Declaration). has_attributes it.body) found.2 ∙ has.2)),
)

-- where no id is listed, no action has attributes
pub none_listed : (front : Actions) (entry : String Global × ActionType RawName) (back : Actions)
    → with_attributes (front ++ entry ∷ back) ≡ [] → entry.1.attributes ≡ None
none_listed front entry back nothing = absent entry.1.attributes refl
  where
    absent : (attributes : _) → entry.1.attributes ≡ attributes → attributes ≡ None
    absent None is = refl
    absent (Some values) is =
        let listed = rw nothing at (action_listed (front ++ entry ∷ back) entry
        (Contains-append_right front (entry ∷ back) entry (0, omega arith, refl)) (ap is_some is)) in
        absurd (omega (arith, listed.1))

-- the keys of a map in order
module _ (key : Text) where
  above_listed : (entries : Actions) → AllByRecursion (λ other. text_cmp key other ≡ Less) (map (λ entry. string_bytes entry.0) entries)
      → AllByRecursion (λ other. text_cmp key other ≡ Less) (with_attributes entries)
  above_listed [] all = tt
  above_listed (entry ∷ entries) all = kept (is_some entry.1.attributes) (above_listed entries all.1)
    where
      kept : (asked : Bool) → AllByRecursion (λ other. text_cmp key other ≡ Less) (with_attributes entries)
          → AllByRecursion (λ other. text_cmp key other ≡ Less) (id_where asked (string_bytes entry.0) ++ with_attributes entries)
      kept true later = (all.0, later)
      kept false later = later

-- the ids that are listed are in order
pub ids_in_order : (entries : Actions) → IsStrictlySortedBy text_cmp (map (λ entry. string_bytes entry.0) entries)
    → IsStrictlySortedBy text_cmp (with_attributes entries)
unfolding IsStrictlySortedBy
ids_in_order [] sorted = tt
ids_in_order (entry ∷ entries) sorted =
    kept (is_some entry.1.attributes) (above_listed (string_bytes entry.0) entries sorted.0) (ids_in_order entries sorted.1)
  where
    kept : (asked : Bool) → AllByRecursion (λ other. text_cmp (string_bytes entry.0) other ≡ Less) (with_attributes entries)
        → IsStrictlySortedBy text_cmp (with_attributes entries)
        → IsStrictlySortedBy text_cmp (id_where asked (string_bytes entry.0) ++ with_attributes entries)
    kept true above later = (above, later)
    kept false above later = later

-- the ids that are listed of a map's entries are in order
pub ids_of_map : (entries : Actions) (ids : List (String Global)) → IsStrictlySortedBy string_cmp (keys_of entries)
    → map string_bytes ids ≡ with_attributes entries → IsStrictlySortedBy text_cmp (map string_bytes ids)
ids_of_map entries ids ordered listed =
    rw listed (ids_in_order entries (rw (map-map _ _ _) at
    (IsStrictlySortedBy-map string_cmp text_cmp string_bytes (λ a b. refl) (keys_of entries) ordered)))

-- the fault of actions with attributes
pub attributes_fault : (namespace : Option PlainName) (entries : Actions) (ids : List (String Global))
    → map string_bytes ids ≡ with_attributes entries → IsStrictlySortedBy text_cmp (map string_bytes ids) → length ids ≢ 0
    → (action_attributes (map string_bytes ids) ≡ out_of_memory)
    ⊎ IsDefinitionFault (action_declarations RawName (raw_reference namespace) namespace entries) (action_attributes (map string_bytes ids))
attributes_fault namespace entries ids listed ordered some =
    inr (
      tt,
      λ extensions. (
        some_mapped ids some,
        ordered,
        namespace,
        λ id among. (ids_exact namespace entries id).0 (rw listed at among),
      ),
    )
  where
    some_mapped : (each : List (String Global)) → length each ≢ 0 → map string_bytes each ≢ []
    some_mapped [] nonempty is = nonempty refl
    some_mapped (first ∷ rest) nonempty is = cc

-- it names just the actions with attributes
pub attributes_named : (namespace : Option PlainName) (entries : Actions) (ids : List (String Global))
    → map string_bytes ids ≡ with_attributes entries
    → NamesAllWithAttributes (action_declarations RawName (raw_reference namespace) namespace entries) namespace
    (action_attributes (map string_bytes ids))
attributes_named namespace entries ids listed id =
    rw listed (ids_exact namespace entries id)

-- where none has attributes, the next action has none
pub next_has_none : (all left rest : Actions) (done : Actions) (entry : String Global × ActionType RawName)
    → with_attributes all ≡ [] → all ≡ done ++ left → left ≡ entry ∷ rest → entry.1.attributes ≡ None
next_has_none all left rest done entry none split is =
    none_listed done entry rest (ap with_attributes (sym (split ∙ ap (λ others. done ++ others) is)) ∙ none)

-- nor has one that stands anywhere among all
pub has_none : (all front back : Actions) (entry : String Global × ActionType RawName) → with_attributes all ≡ []
    → all ≡ front ++ entry ∷ back → entry.1.attributes ≡ None
has_none all front back entry none split = none_listed front entry back (ap with_attributes (sym split) ∙ none)

-- a refusal that names no actions leaves none out
pub none_named : (bag : Bag) (namespace : Option PlainName) (fault : Fault) → NamesNoAttributes fault → NamesAllWithAttributes bag namespace fault
none_named bag namespace (action_attributes ids) none = absurd none
none_named bag namespace _ none = tt

-- where other declarations declare no actions, what names just the actions with attributes of some
-- names just those of all
pub named_in_all : (others part : Bag) (namespace : Option PlainName) → ((it : Declaration) (body : ActionBody) → Contains others it → ¬ (it.body ≡ action body))
    → (fault : Fault) → NamesAllWithAttributes part namespace fault → NamesAllWithAttributes (others ++ part) namespace fault
named_in_all others part namespace no_actions (action_attributes ids) named =
    λ id. (
      λ among. let has = (named id).0 among in (has.0, Contains-append_right others part _ has.1, has.2),
      λ has. (named id).1 (
        has.0,
        elim (Contains-append_cases others part _ has.1) [
          | inl here ↦ absurd (no_actions _ has.0 here refl)
          | inr there ↦ there
        ],
        has.2,
      ),
    )
named_in_all others part namespace no_actions _ named = tt

-- common types and entity types are no actions
pub no_actions_among : (namespace : Option PlainName) (common : List (CommonTypeId × CommonType RawName)) (entities : List (UnreservedId × EntityType RawName))
    (it : Declaration) (body : ActionBody)
    → Contains (common_declarations RawName (raw_reference namespace) namespace common
    ++ entity_declarations RawName (raw_reference namespace) namespace entities) it → ¬ (it.body ≡ action body)
no_actions_among namespace common entities it body among is =
    elim (Contains-append_cases (common_declarations RawName (raw_reference namespace) namespace common)
    (entity_declarations RawName (raw_reference namespace) namespace entities) it among) [
      | inl here ↦
          let found = Contains-preimage _ common it here in
          no_common (ap (λ (each : Declaration). each.body) found.2 ∙ is)
      | inr there ↦
          let found = Contains-preimage _ entities it there in
          no_entity (ap (λ (each : Declaration). each.body) found.2 ∙ is)
    ]
  where
    no_common : {definition : Expr} → ¬ (common_type definition ≡ action body)
    no_common wrong = cc

    no_entity : {declared : EntityBody} → ¬ (entity_type declared ≡ action body)
    no_entity wrong = cc

-- what the test of whether a list is empty says
pub nonempty_by : (ids : Vec (String Global) Global) (test : Bool) → test ≡ (vec_len ids == 0) → test ≡ false → length ids.items ≢ 0
nonempty_by ids test is failed none = false≢true (sym failed ∙ (is ∙ eq-eqb (vec_len ids) 0 (ids.ok.0 ∙ none)))
