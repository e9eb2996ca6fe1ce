-- The names that fragments declare are those of their bag.
use Rattle.std.proofs.Common.{◌≡◌, List, [], ◌∷◌, ◌++◌, map, ap, sym, ◌∙◌, refl, Option}
use Rattle.std.proofs.lemmas.Grind.{flat_map-append}
use Rattle.std.proofs.lemmas.List.{map-append, append-nil}
use Rattle.std.specs.List.{flat_map}
use Rattle.cedar_fragments.proofs.DeclaredAsLemmas.{path_within-namespace_of}
use Rattle.cedar_fragments.specs.Words.{AllDefs, AreTheDeclaredNames, Bag, DeclaresJust, HoldsJust, held_names, Body, Declaration, IsActionType, PlainName, PlainUid, Reference, ReferenceType, ValidatorNamespaceDef, ValidatorSchemaFragment, action, action_fragment_body, action_fragment_declaration, action_fragment_declarations, action_in, common_in, common_type, common_type_declaration, common_type_declarations, declared_action, declared_as, declared_name, declared_names, declared_uid, definition_declarations, definition_names, definition_namespace, entity_in, entity_type, entity_type_declaration, entity_type_declarations, fragment_body, fragment_declarations, name_of, type_expr, type_name, uid_of, written_bag, written_definition}
use Rattle.cedar_name_resolution.proofs.NamesDefined.{just_declared}

-- what is declared under a name has that name
pub name_declared : (name : PlainName) (body : Body) → declared_name (declared_as name body) ≡ name
name_declared name body = (λ i. record { base = name.base; path = path_within-namespace_of name.path i })

-- what is declared of an action has its uid
pub uid_declared : (uid : PlainUid) (body : Body) → IsActionType uid.ty → declared_uid (declared_action uid body) ≡ uid
uid_declared uid body is =
    (λ i. record { ty = record { base = sym is i; path = path_within-namespace_of uid.ty.path i }; eid = uid.eid })

module _ {P : Type 0} (read : Declaration → List P) where
  -- where each declaration gives a name, some give those names
  pub each_read : {D : Type 0} (f : D → Declaration) (key : D → P) → ((d : D) → read (f d) ≡ key d ∷ []) → (defs : List D)
      → flat_map read (map f defs) ≡ map key defs
  each_read f key one [] = refl
  each_read f key one (def ∷ defs) = (λ i. one def i ++ each_read f key one defs i)

  -- where none gives one, some give none
  pub none_read : {D : Type 0} (f : D → Declaration) → ((d : D) → read (f d) ≡ []) → (defs : List D) → flat_map read (map f defs) ≡ []
  none_read f none [] = refl
  none_read f none (def ∷ defs) = (λ i. none def i ++ none_read f none defs i)

  -- what three bags give together
  pub three_read : (xs ys zs : Bag) → flat_map read (xs ++ ys ++ zs) ≡ flat_map read xs ++ flat_map read ys ++ flat_map read zs
  three_read xs ys zs = flat_map-append read (xs ++ ys) zs ∙ ap (λ front. front ++ flat_map read zs) (flat_map-append read xs ys)

  -- several bags give what each gives in turn
  read_together : {X : Type 0} (f : X → Bag) (xs : List X) → flat_map read (flat_map f xs) ≡ flat_map (λ x. flat_map read (f x)) xs
  read_together f [] = refl
  read_together f (x ∷ xs) = flat_map-append read (f x) (flat_map f xs) ∙ ap (λ others. flat_map read (f x) ++ others) (read_together f xs)

-- where each gives the same, all do
same_together : {X P : Type 0} (f g : X → List P) → ((x : X) → f x ≡ g x) → (xs : List X) → flat_map f xs ≡ flat_map g xs
same_together f g same [] = refl
same_together f g same (x ∷ xs) = (λ i. same x i ++ same_together f g same xs i)

-- the keys of what is read are read
pub keys_read : {P Q : Type 0} (read : Declaration → List (P × Q)) (bag : Bag)
    → map (λ it. it.0) (flat_map read bag) ≡ flat_map (λ it. map (λ each. each.0) (read it)) bag
keys_read read [] = refl
keys_read read (it ∷ bag) = map-append (λ each. each.0) (read it) (flat_map read bag) ∙ ap (λ others. map (λ each. each.0) (read it) ++ others) (keys_read read bag)

-- the names that a declaration gives
abbrev pub common_name : Declaration → List PlainName
common_name it = map (λ each. each.0) (common_in (declared_name it) it.body)

abbrev pub entity_name : Declaration → List PlainName
entity_name it = map (λ each. each.0) (entity_in (declared_name it) it.body)

abbrev pub action_uid : Declaration → List PlainUid
action_uid it = map (λ each. each.0) (action_in (declared_uid it) it.body)

-- where it is given what a definition declares, which are the names that it declares itself
module _ {N A : Type 0} (declare : ValidatorNamespaceDef N A → Bag)
    (common : (it : ValidatorNamespaceDef N A) → flat_map common_name (declare it) ≡ (definition_names N A it).common)
    (entities : (it : ValidatorNamespaceDef N A) → flat_map entity_name (declare it) ≡ (definition_names N A it).entities)
    (actions : (it : ValidatorNamespaceDef N A) → flat_map action_uid (declare it) ≡ (definition_names N A it).actions) where
  -- what a fragment declares
  abbrev in_fragment : ValidatorSchemaFragment N A → Bag
  in_fragment fragment = flat_map declare fragment.definitions.items

  -- the names of a bag of fragments, read definition by definition
  all_of : {P : Type 0} (read : Declaration → List P) (names : ValidatorNamespaceDef N A → List P)
      → ((it : ValidatorNamespaceDef N A) → flat_map read (declare it) ≡ names it)
      → (fragments : List (ValidatorSchemaFragment N A))
      → flat_map read (flat_map in_fragment fragments)
      ≡ flat_map (λ fragment. flat_map names fragment.definitions.items) fragments
  all_of read names each fragments =
      read_together read in_fragment fragments
      ∙ same_together _ (λ fragment. flat_map names fragment.definitions.items)
      (λ fragment. read_together read declare fragment.definitions.items
      ∙ same_together _ names each fragment.definitions.items) fragments

  -- the names that fragments declare are those of their bag
  names_in_turn : (fragments : List (ValidatorSchemaFragment N A))
      → AreTheDeclaredNames (declared_names N A fragments) (flat_map in_fragment fragments)
  names_in_turn fragments =
      let bag = flat_map in_fragment fragments in
      record {
        common = sym (keys_read (λ it. common_in (declared_name it) it.body) bag
            ∙ all_of common_name (λ it. (definition_names N A it).common) common fragments);
        entities = sym (keys_read (λ it. entity_in (declared_name it) it.body) bag
            ∙ all_of entity_name (λ it. (definition_names N A it).entities) entities fragments);
        actions = sym (keys_read (λ it. action_in (declared_uid it) it.body) bag
            ∙ all_of action_uid (λ it. (definition_names N A it).actions) actions fragments);
      }

module _ (N : Type 0) (refer : ReferenceType → N → Reference) (A : Type 0) (refer_action : ReferenceType → A → Reference) where
  -- the names of common types of a definition
  common_of : (it : ValidatorNamespaceDef N A)
      → flat_map common_name (definition_declarations N refer A refer_action it) ≡ (definition_names N A it).common
  common_of it =
      three_read common_name (common_type_declarations N refer it.common_types) (entity_type_declarations N refer it.entity_types)
      (action_fragment_declarations N refer A refer_action it.actions)
      ∙ ((λ i.
      each_read common_name (common_type_declaration N refer) (λ def. name_of def.name)
      (λ def. ap (λ name. name ∷ []) (name_declared (name_of def.name) (common_type (type_expr N refer def.ty)))) it.common_types.defs.items i
      ++ none_read common_name (entity_type_declaration N refer) (λ def. refl) it.entity_types.defs.items i
      ++ none_read common_name (action_fragment_declaration N refer A refer_action) (λ def. refl) it.actions.defs.items i)
      ∙ (append-nil _ ∙ append-nil _))

  -- the names of entity types of a definition
  entities_of : (it : ValidatorNamespaceDef N A)
      → flat_map entity_name (definition_declarations N refer A refer_action it) ≡ (definition_names N A it).entities
  entities_of it =
      three_read entity_name (common_type_declarations N refer it.common_types) (entity_type_declarations N refer it.entity_types)
      (action_fragment_declarations N refer A refer_action it.actions)
      ∙ ((λ i.
      none_read entity_name (common_type_declaration N refer) (λ def. refl) it.common_types.defs.items i
      ++ each_read entity_name (entity_type_declaration N refer) (λ def. type_name def.name)
      (λ def. ap (λ name. name ∷ []) (name_declared (type_name def.name) (entity_type (fragment_body N refer def.fragment)))) it.entity_types.defs.items i
      ++ none_read entity_name (action_fragment_declaration N refer A refer_action) (λ def. refl) it.actions.defs.items i)
      ∙ append-nil _)

  -- the uids of actions of a definition
  actions_of : (it : ValidatorNamespaceDef N A)
      → flat_map action_uid (definition_declarations N refer A refer_action it) ≡ (definition_names N A it).actions
  actions_of it =
      three_read action_uid (common_type_declarations N refer it.common_types) (entity_type_declarations N refer it.entity_types)
      (action_fragment_declarations N refer A refer_action it.actions)
      ∙ (λ i.
      none_read action_uid (common_type_declaration N refer) (λ def. refl) it.common_types.defs.items i
      ++ none_read action_uid (entity_type_declaration N refer) (λ def. refl) it.entity_types.defs.items i
      ++ each_read action_uid (action_fragment_declaration N refer A refer_action) (λ def. uid_of def.uid)
      (λ def. ap (λ uid. uid ∷ []) (uid_declared (uid_of def.uid) (action (action_fragment_body N refer A refer_action def.fragment)) def.is_action))
      it.actions.defs.items i)

  -- the names that fragments declare are those of their bag
  pub names_are_declared : (fragments : List (ValidatorSchemaFragment N A))
      → AreTheDeclaredNames (declared_names N A fragments) (flat_map (fragment_declarations N refer A refer_action) fragments)
  names_are_declared = names_in_turn (definition_declarations N refer A refer_action) common_of entities_of actions_of

-- so they are where they are written in the namespaces of their definitions
pub written_names_are_declared : (N : Type 0) (refer : Option PlainName → ReferenceType → N → Reference)
    (fragments : List (ValidatorSchemaFragment N N)) → AreTheDeclaredNames (declared_names N N fragments) (written_bag N refer fragments)
written_names_are_declared N refer =
    let here : ValidatorNamespaceDef N N → ReferenceType → N → Reference = λ it. refer (definition_namespace N N it) in
    names_in_turn (written_definition N refer) (λ it. common_of N (here it) N (here it) it) (λ it. entities_of N (here it) N (here it) it)
    (λ it. actions_of N (here it) N (here it) it)

-- names that are just those of fragments are just those of the bag that these declare
pub written_just : (N : Type 0) (refer : Option PlainName → ReferenceType → N → Reference)
    (fragments : List (ValidatorSchemaFragment N N)) (defs : AllDefs)
    → HoldsJust (held_names defs) (declared_names N N fragments) → DeclaresJust (written_bag N refer fragments) defs
written_just N refer fragments defs just =
    just_declared (held_names defs) (declared_names N N fragments) (written_bag N refer fragments) just
    (written_names_are_declared N refer fragments)
