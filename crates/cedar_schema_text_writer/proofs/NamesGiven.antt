-- The names that declarations give.
use Rattle.std.proofs.Common.{◌≡◌, inl, inr, Option, List, [], ◌∷◌, ◌++◌, map, cond, string_bytes, length, Contains, refl, ap, sym, subst, ◌∙◌, append_assoc, append-nil, arith}
use Rattle.std.proofs.lemmas.Bool.Decides.{same_from_decides}
use Rattle.std.proofs.lemmas.Grind.{flat_map-append}
use Rattle.std.proofs.lemmas.List.{map-append, flat_map_more}
use Rattle.std.proofs.lemmas.List.Elements.{Contains-append_left, Contains-append_right, Contains-append_cases}
use Rattle.std.proofs.lemmas.Simd.{map-map}
use Rattle.std.specs.List.{flat_map}
use Rattle.std.specs.Option.{option_map}
use Rattle.std.specs.declared.alloc.Global.{Global}
use Rattle.std.specs.declared.string.String.{String}
use Rattle.cedar_ast.proofs.Lists.{Contains-cons, Contains-cons_cases}
use Rattle.cedar_ast.specs.Words.{PlainName, PlainUid, action_word, plain_name, unreserved_id_text}
use Rattle.cedar_ast.specs.declared.name.Name.{Name}
use Rattle.cedar_ast.specs.declared.unreserved_id.UnreservedId.{UnreservedId}
use Rattle.cedar_name_resolution.proofs.NamesSoFar.{HoldsJust-through, just_these}
use Rattle.cedar_name_resolution.proofs.SetLemmas.{HasAlso-more, HasAlso-none}
use Rattle.cedar_name_resolution.specs.Words.{HasAlso, HoldsAlso, HoldsJust, Names, SameItems, name_within, names_together}
use Rattle.cedar_schema_ast.specs.ActionBody.{ActionBody, action_body}
use Rattle.cedar_schema_ast.specs.Declaration.{Declaration, action, common_type, entity_type, raw_bag, raw_declarations, raw_fragment}
use Rattle.cedar_schema_ast.specs.EntityBody.{EntityBody, entity_body}
use Rattle.cedar_schema_ast.specs.Words.{Expr, common_type_text, raw_reference, type_expr}
use Rattle.cedar_schema_ast.specs.declared.json_schema.action_type.ActionType.{ActionType}
use Rattle.cedar_schema_ast.specs.declared.json_schema.common_type_id.CommonTypeId.{CommonTypeId}
use Rattle.cedar_schema_ast.specs.declared.json_schema.entity_type.EntityType.{EntityType}
use Rattle.cedar_schema_ast.specs.declared.json_schema.fragment.CommonType.{CommonType}
use Rattle.cedar_schema_ast.specs.declared.json_schema.fragment.Fragment.{Fragment}
use Rattle.cedar_schema_ast.specs.declared.json_schema.fragment.NamespaceDefinition.{NamespaceDefinition}
use Rattle.cedar_schema_ast.specs.declared.json_schema.raw_name.RawName.{RawName}
use Rattle.cedar_schema_semantics.specs.Bag.{Bag, action_in, common_in, declared_name, declared_uid, entity_in}
use Rattle.cedar_schema_text_writer.proofs.Held.{held}
use Rattle.cedar_schema_text_writer.specs.Names.{first_standing, is_held, names_of_bag, standing_of, standing_or}
use Rattle.cedar_schema_text_writer.specs.declared.scope.Standing.TheVariants.{Common, Entity, Undeclared}

-- what is read of the declarations of a bag, by its name
module _ {A P : Type 0} (read : Declaration → List A) (name : A → P) where
  abbrev names_read : Bag → List P
  names_read bag = map name (flat_map read bag)

  -- of bags one after another
  read-append : (bag others : Bag) → names_read (bag ++ others) ≡ names_read bag ++ names_read others
  read-append bag others =
      ap (map name) (flat_map-append read bag others) ∙ map-append name (flat_map read bag) (flat_map read others)

  -- of the bags of some things
  read-together : {D : Type 0} (f : D → Bag) (ds : List D) → flat_map (λ d. names_read (f d)) ds ≡ names_read (flat_map f ds)
  read-together f [] = refl
  read-together f (d ∷ ds) =
      ap (λ (names : List P). names_read (f d) ++ names) (read-together f ds) ∙ sym (read-append (f d) (flat_map f ds))

  -- of declarations that each give one name
  read-each : {D : Type 0} (make : D → Declaration) (given : D → P) → ((d : D) → map name (read (make d)) ≡ given d ∷ []) → (ds : List D)
      → names_read (map make ds) ≡ map given ds
  read-each make given says [] = refl
  read-each make given says (d ∷ ds) =
      map-append name (read (make d)) (flat_map read (map make ds)) ∙ (λ i. says d i ++ read-each make given says ds i)

  -- of declarations that give none
  read-none : {D : Type 0} (make : D → Declaration) → ((d : D) → read (make d) ≡ []) → (ds : List D) → names_read (map make ds) ≡ []
  read-none make says [] = refl
  read-none make says (d ∷ ds) =
      map-append name (read (make d)) (flat_map read (map make ds)) ∙ (λ i. map name (says d i) ++ read-none make says ds i)

-- what a declaration gives: a common type, an entity type, or an action
abbrev read_common : Declaration → List (PlainName × Expr)
read_common it = common_in (declared_name it) it.body

abbrev read_entity : Declaration → List (PlainName × EntityBody)
read_entity it = entity_in (declared_name it) it.body

abbrev read_action : Declaration → List (PlainUid × ActionBody)
read_action it = action_in (declared_uid it) it.body

-- the names of common types and of entity types, and the types of actions
abbrev common_names : Bag → List PlainName
common_names = names_read read_common (λ it. it.0)

abbrev entity_names : Bag → List PlainName
entity_names = names_read read_entity (λ it. it.0)

abbrev action_names : Bag → List PlainName
action_names = names_read read_action (λ it. it.0.ty)

-- the names that a bag declares, by kind
names-read : (bag : Bag) → names_of_bag bag ≡ record { common = common_names bag; entities = entity_names bag ++ action_names bag; actions = [] }
names-read bag = λ i. record {
  common = common_names bag;
  entities = entity_names bag ++ map-map (λ (uid : PlainUid). uid.ty) (λ (it : PlainUid × ActionBody). it.0) (flat_map read_action bag) i;
  actions = [];
}

module _ (namespace : Option PlainName) where
  -- the declarations of a definition, by kind
  abbrev common_made : CommonTypeId × CommonType RawName → Declaration
  common_made entry = record {
    namespace = namespace;
    id = common_type_text entry.0;
    body = common_type (type_expr RawName (raw_reference namespace) entry.1.ty);
  }

  abbrev entity_made : UnreservedId × EntityType RawName → Declaration
  entity_made entry = record {
    namespace = namespace;
    id = unreserved_id_text entry.0;
    body = entity_type (entity_body RawName (raw_reference namespace) entry.1);
  }

  abbrev action_made : String Global × ActionType RawName → Declaration
  action_made entry = record {
    namespace = namespace;
    id = string_bytes entry.0;
    body = action (action_body RawName (raw_reference namespace) namespace entry.1);
  }

  -- the names that the entries of a definition give
  abbrev pub common_given : CommonTypeId × CommonType RawName → PlainName
  common_given entry = name_within namespace (common_type_text entry.0)

  abbrev pub entity_given : UnreservedId × EntityType RawName → PlainName
  entity_given entry = name_within namespace (unreserved_id_text entry.0)

  abbrev pub action_given : String Global × ActionType RawName → PlainName
  action_given entry = name_within namespace action_word

  module _ (it : NamespaceDefinition RawName) where
    abbrev types : Bag
    types = map common_made it.common_types.entries

    abbrev entities : Bag
    entities = map entity_made it.entity_types.entries

    abbrev actions : Bag
    actions = map action_made it.actions.entries

    -- the names of its common types are those that it declares
    definition_common : common_names (raw_declarations namespace it) ≡ map common_given it.common_types.entries
    definition_common =
        let given : List PlainName = map common_given it.common_types.entries in
        read-append read_common (λ one. one.0) (types ++ entities) actions
        ∙ ((λ i.
        (read-append read_common (λ one. one.0) types entities
        ∙ (λ j.
        read-each read_common (λ one. one.0) common_made common_given (λ entry. refl) it.common_types.entries j
        ++ read-none read_common (λ one. one.0) entity_made (λ entry. refl) it.entity_types.entries j)) i
        ++ read-none read_common (λ one. one.0) action_made (λ entry. refl) it.actions.entries i)
        ∙ (append-nil (given ++ []) ∙ append-nil given))

    -- those of its entity types too
    definition_entities : entity_names (raw_declarations namespace it) ≡ map entity_given it.entity_types.entries
    definition_entities =
        read-append read_entity (λ one. one.0) (types ++ entities) actions
        ∙ ((λ i.
        (read-append read_entity (λ one. one.0) types entities
        ∙ (λ j.
        read-none read_entity (λ one. one.0) common_made (λ entry. refl) it.common_types.entries j
        ++ read-each read_entity (λ one. one.0) entity_made entity_given (λ entry. refl) it.entity_types.entries j)) i
        ++ read-none read_entity (λ one. one.0) action_made (λ entry. refl) it.actions.entries i)
        ∙ append-nil (map entity_given it.entity_types.entries))

    -- and its actions have their type
    definition_actions : action_names (raw_declarations namespace it) ≡ map action_given it.actions.entries
    definition_actions =
        read-append read_action (λ one. one.0.ty) (types ++ entities) actions
        ∙ (λ i.
        (read-append read_action (λ one. one.0.ty) types entities
        ∙ (λ j.
        read-none read_action (λ one. one.0.ty) common_made (λ entry. refl) it.common_types.entries j
        ++ read-none read_action (λ one. one.0.ty) entity_made (λ entry. refl) it.entity_types.entries j)) i
        ++ read-each read_action (λ one. one.0.ty) action_made action_given (λ entry. refl) it.actions.entries i)

    -- names to which those of a definition's parts were added
    pub definition_held : (before after : Names) (middle : List PlainName) → HasAlso after.common before.common (map common_given it.common_types.entries)
        → HasAlso middle before.entities (map entity_given it.entity_types.entries)
        → HasAlso after.entities middle (map action_given it.actions.entries) → after.actions ≡ before.actions
        → HoldsAlso after before (names_of_bag (raw_declarations namespace it))
    definition_held before after middle common_also entities_also actions_also same =
        let bag : Bag = raw_declarations namespace it in
        subst (HoldsAlso after before) (sym (names-read bag)) (record {
          common = subst (HasAlso after.common before.common) (sym definition_common) common_also;
          entities = subst (HasAlso after.entities before.entities) (λ i. sym definition_entities i ++ sym definition_actions i)
              (HasAlso-more before.entities middle after.entities (map entity_given it.entity_types.entries) (map action_given it.actions.entries)
              entities_also actions_also);
          actions = subst (λ (uids : List PlainUid). HasAlso uids before.actions []) (sym same) (HasAlso-none before.actions);
        })

-- things of two lists that are given in turn are those of both
both_together : {D P : Type 0} (p q : D → List P) (ds : List D) → SameItems (flat_map (λ d. p d ++ q d) ds) (flat_map p ds ++ flat_map q ds)
both_together p q [] item = (λ among. among, λ among. among)
both_together p q (d ∷ ds) item =
    let ps = flat_map p ds in
    let qs = flat_map q ds in
    let all = flat_map (λ one. p one ++ q one) ds in
    let later = both_together p q ds item in (
      λ among. elim (Contains-append_cases (p d ++ q d) all item among) [
        | inl here ↦ elim (Contains-append_cases (p d) (q d) item here) [
          | inl one ↦ Contains-append_left (p d ++ ps) (q d ++ qs) item (Contains-append_left (p d) ps item one)
          | inr two ↦ Contains-append_right (p d ++ ps) (q d ++ qs) item (Contains-append_left (q d) qs item two)
        ]
        | inr there ↦ elim (Contains-append_cases ps qs item (later.0 there)) [
          | inl one ↦ Contains-append_left (p d ++ ps) (q d ++ qs) item (Contains-append_right (p d) ps item one)
          | inr two ↦ Contains-append_right (p d ++ ps) (q d ++ qs) item (Contains-append_right (q d) qs item two)
        ]
      ],
      λ among. elim (Contains-append_cases (p d ++ ps) (q d ++ qs) item among) [
        | inl one ↦ elim (Contains-append_cases (p d) ps item one) [
          | inl here ↦ Contains-append_left (p d ++ q d) all item (Contains-append_left (p d) (q d) item here)
          | inr there ↦ Contains-append_right (p d ++ q d) all item (later.1 (Contains-append_left ps qs item there))
        ]
        | inr two ↦ elim (Contains-append_cases (q d) qs item two) [
          | inl here ↦ Contains-append_left (p d ++ q d) all item (Contains-append_right (p d) (q d) item here)
          | inr there ↦ Contains-append_right (p d ++ q d) all item (later.1 (Contains-append_right ps qs item there))
        ]
      ],
    )

-- nothing of each is nothing
none_together : {D : Type 0} (none : D → List PlainUid) → ((d : D) → none d ≡ []) → (ds : List D) → flat_map none ds ≡ []
none_together none says [] = refl
none_together none says (d ∷ ds) = λ i. says d i ++ none_together none says ds i

-- the names that bags give together are those of the whole bag
pub bags_together : {D : Type 0} (f : D → Bag) (ds : List D) → HoldsJust (names_together (λ d. names_of_bag (f d)) ds) (names_of_bag (flat_map f ds))
bags_together f ds =
    let bag : Bag = flat_map f ds in
    subst (λ (declared : _ → Names). HoldsJust (names_together declared ds) (names_of_bag bag)) (λ i d. sym (names-read (f d)) i)
    (subst (HoldsJust (names_together (λ d. record { common = common_names (f d); entities = entity_names (f d) ++ action_names (f d); actions = [] }) ds)) (sym (names-read bag))
    (record {
      common = subst (SameItems (flat_map (λ d. common_names (f d)) ds)) (read-together read_common (λ one. one.0) f ds)
          (λ name. (λ among. among, λ among. among));
      entities = subst (SameItems (flat_map (λ d. entity_names (f d) ++ action_names (f d)) ds))
          (λ i. read-together read_entity (λ one. one.0) f ds i ++ read-together read_action (λ one. one.0.ty) f ds i)
          (both_together (λ d. entity_names (f d)) (λ d. action_names (f d)) ds);
      actions = subst (λ (uids : List PlainUid). SameItems uids []) (sym (none_together (λ d. []) (λ d. refl) ds)) (λ uid. (λ among. among, λ among. among));
    }))

-- what the definition of a namespace declares, and the names of that
abbrev pub definition_bag : Option Name × NamespaceDefinition RawName → Bag
definition_bag entry = raw_declarations (option_map plain_name entry.0) entry.1

abbrev pub definition_names : Option Name × NamespaceDefinition RawName → Names
definition_names entry = names_of_bag (definition_bag entry)

-- the names that a fragment declares
abbrev pub fragment_names : Fragment RawName → Names
fragment_names fragment = names_of_bag (raw_fragment fragment)

-- more names than before, where they are the same
pub also_same : (after before more others : Names) → HoldsAlso after before more → HoldsJust more others → HoldsAlso after before others
also_same after before more others also same = record {
  common = each after.common before.common more.common others.common also.common same.common;
  entities = each after.entities before.entities more.entities others.entities also.entities same.entities;
  actions = each after.actions before.actions more.actions others.actions also.actions same.actions;
}
  where
    each : {P : Type 0} (now then some same : List P) → HasAlso now then some → SameItems some same → HasAlso now then same
    each now then some others_same adds is item = (
      λ among. elim ((adds item).0 among) [ inl here ↦ inl here | inr there ↦ inr ((is item).0 there) ],
      elim [ inl here ↦ (adds item).1 (inl here) | inr there ↦ (adds item).1 (inr ((is item).1 there)) ],
    )

-- the names of some things were added, and others are left
pub record NamesSoFar {D : Type 0} (declared : D → Names) (before : Names) (all : List D) (after : Names) (left : List D) : Type 0 where
  pub done : List D
  pub split : all ≡ done ++ left
  pub added : HoldsAlso after before (names_together declared done)

module _ {D : Type 0} (declared : D → Names) (before : Names) where
  -- at first none were
  pub names_none : (all left : List D) → all ≡ left → NamesSoFar declared before all before left
  names_none all left same = record {
    done = [];
    split = same;
    added = record { common = HasAlso-none before.common; entities = HasAlso-none before.entities; actions = HasAlso-none before.actions };
  }

  -- those of one more were
  pub names_more : (all left rest : List D) (middle after : Names) (item : D) → left ≡ item ∷ rest → HoldsAlso after middle (declared item)
      → NamesSoFar declared before all middle left → NamesSoFar declared before all after rest
  names_more all left rest middle after item is also so_far =
      let done : List D = so_far.done in
      record {
        done = done ++ item ∷ [];
        split = so_far.split ∙ (ap (λ others. done ++ others) is ∙ sym (append_assoc done (item ∷ []) rest));
        added = record {
          common = subst (HasAlso after.common before.common) (flat_map_more (λ d. (declared d).common) [] done item)
              (HasAlso-more before.common middle.common after.common (flat_map (λ d. (declared d).common) done) (declared item).common
              so_far.added.common also.common);
          entities = subst (HasAlso after.entities before.entities) (flat_map_more (λ d. (declared d).entities) [] done item)
              (HasAlso-more before.entities middle.entities after.entities (flat_map (λ d. (declared d).entities) done) (declared item).entities
              so_far.added.entities also.entities);
          actions = subst (HasAlso after.actions before.actions) (flat_map_more (λ d. (declared d).actions) [] done item)
              (HasAlso-more before.actions middle.actions after.actions (flat_map (λ d. (declared d).actions) done) (declared item).actions
              so_far.added.actions also.actions);
        };
      }

  -- where none is left, all were
  pub names_all : (all left : List D) (after : Names) → left ≡ [] → NamesSoFar declared before all after left
      → HoldsAlso after before (names_together declared all)
  names_all all left after nothing so_far =
      subst (λ ds. HoldsAlso after before (names_together declared ds))
      (sym (so_far.split ∙ (ap (λ others. so_far.done ++ others) nothing ∙ append-nil so_far.done))) so_far.added

-- the names that are held once those of a fragment and of those beside it were listed
pub all_listed : (before middle after held_names : Names) (fragment : Fragment RawName) (beside : List (Fragment RawName)) → before.common ≡ []
    → before.entities ≡ [] → before.actions ≡ [] → HoldsAlso middle before (fragment_names fragment)
    → HoldsAlso after middle (names_together fragment_names beside) → HoldsJust held_names after
    → HoldsJust held_names (names_of_bag (raw_bag (fragment ∷ beside)))
all_listed before middle after held_names fragment beside common entities actions first others is =
    let all : Names = names_together fragment_names (fragment ∷ beside) in
    let given : Names = fragment_names fragment in
    let more : Names = names_together fragment_names beside in
    let listed : HoldsAlso after before all = record {
      common = HasAlso-more before.common middle.common after.common given.common more.common first.common others.common;
      entities = HasAlso-more before.entities middle.entities after.entities given.entities more.entities first.entities others.entities;
      actions = HasAlso-more before.actions middle.actions after.actions given.actions more.actions first.actions others.actions;
    } in
    HoldsJust-through held_names after (names_of_bag (raw_bag (fragment ∷ beside))) is
    (HoldsJust-through after all (names_of_bag (raw_bag (fragment ∷ beside))) (just_these before after all common entities actions listed)
    (bags_together raw_fragment (fragment ∷ beside)))

module _ (names others : Names) (same : HoldsJust names others) where
  -- a name is one of some exactly where it is one of the same
  held_same : (some same : List PlainName) → SameItems some same → (name : PlainName) → is_held some name ≡ is_held same name
  held_same some others_same is name =
      same_from_decides (is_held some name) (is_held others_same name) (held some name)
      (λ true_there. (is name).1 ((held others_same name).0 true_there), λ among. (held others_same name).1 ((is name).0 among))

  standing_same : (name : PlainName) → standing_of names name ≡ standing_of others name
  standing_same name = λ i.
      cond (held_same names.common others.common same.common name i) Common
      (cond (held_same names.entities others.entities same.entities name i) Entity Undeclared)

  first_same_of : (possibilities : List PlainName) → first_standing names possibilities ≡ first_standing others possibilities
  first_same_of [] = refl
  first_same_of (name ∷ rest) = λ i. standing_or (standing_same name i) (first_same_of rest i)

  -- the same names are declared alike
  pub first_same : first_standing names ≡ first_standing others
  first_same = λ i possibilities. first_same_of possibilities i

-- what is the same for each of some things
all_one : {D P : Type 0} (name : P) (ds : List D) (item : P) → Contains (map (λ (d : D). name) ds) item → name ≡ item
all_one name [] item there = absurd (omega (arith, there.1))
all_one name (d ∷ ds) item there = elim (Contains-cons_cases name (map (λ one. name) ds) item there) [
  | inl same ↦ same
  | inr later ↦ all_one name ds item later
]

-- one name for each of some things, where there are some
pub one_for_all : {D P : Type 0} (before after : List P) (name : P) (ds : List D) → ¬ (length ds ≡ 0) → HasAlso after before (name ∷ [])
    → HasAlso after before (map (λ (d : D). name) ds)
one_for_all before after name [] some also = absurd (some refl)
one_for_all before after name (d ∷ ds) some also = λ item. (
  λ among. elim ((also item).0 among) [
    | inl here ↦ inl here
    | inr there ↦ inr (Contains-append_left (name ∷ []) (map (λ one. name) ds) item there)
  ],
  elim [
    | inl here ↦ (also item).1 (inl here)
    | inr there ↦ (also item).1 (inr (Contains-cons name [] item (inl (all_one name (d ∷ ds) item there))))
  ],
)

-- none where there are none
pub none_for_none : {D P : Type 0} (items : List P) (name : P) (ds : List D) → length ds ≡ 0 → HasAlso items items (map (λ (d : D). name) ds)
none_for_none items name [] none = HasAlso-none items
none_for_none items name (d ∷ ds) none = absurd (omega (arith, none))
