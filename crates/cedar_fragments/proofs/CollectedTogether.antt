-- Declarations that are collected bag by bag.
use Rattle.std.proofs.Common.{◌≡◌, List, [], ◌∷◌, ◌++◌, Option, ap, sym, ◌∙◌, append_assoc}
use Rattle.std.proofs.lemmas.Grind.{flat_map-append}
use Rattle.std.proofs.lemmas.List.{append-nil}
use Rattle.std.specs.List.{flat_map}
use Rattle.cedar_fragments.proofs.DeclaredParts.{common_of_three, entities_of_three, actions_of_three}
use Rattle.cedar_fragments.specs.Words.{ActionsDef, Bag, CollectsAlso, CommonTypeDefs, Declaration, Declarations, EntityTypesDef, PlainName, Reference, ReferenceType, action_fragment_declarations, common_type_declarations, declared_actions, declared_common, declared_entities, entity_type_declarations, written_actions, written_common, written_entities}

-- what is read of a bag after a list is read of its two parts in turn
next_read : {P : Type 0} (read : Declaration → List P) (made after others : List P) (bag rest : Bag) → after ≡ made ++ flat_map read bag
    → made ++ flat_map read (bag ++ rest) ≡ others → after ++ flat_map read rest ≡ others
next_read read made after others bag rest is so_far =
    cc (is, append_assoc made (flat_map read bag) (flat_map read rest), flat_map-append read bag rest, so_far)

-- over names of some form, where it is given what a name refers to in a namespace at a place of
-- each kind
module _ (N : Type 0) (refer : Option PlainName → ReferenceType → N → Reference) where
  -- what was collected so far and what a bag declares that is left are together what was collected
  -- before and what a whole bag declares
  pub record CollectsTogether (before : Declarations N) (whole : Bag) (made : Declarations N) (left : Bag) : Type 0 where
    pub common : written_common N refer made.common_types.items ++ declared_common left
        ≡ written_common N refer before.common_types.items ++ declared_common whole
    pub entities : written_entities N refer made.entity_types.items ++ declared_entities left
        ≡ written_entities N refer before.entity_types.items ++ declared_entities whole
    pub actions : written_actions N refer made.actions.items ++ declared_actions left
        ≡ written_actions N refer before.actions.items ++ declared_actions whole

  module _ {X : Type 0} (f : X → Bag) (before : Declarations N) where
    -- at first all are left
    pub collect_none : (all left : List X) (whole : Bag) → left ≡ all → whole ≡ flat_map f all → CollectsTogether before whole before (flat_map f left)
    collect_none all left whole same is =
        let bags : flat_map f left ≡ whole = ap (flat_map f) same ∙ sym is in
        record {
          common = ap (λ bag. written_common N refer before.common_types.items ++ declared_common bag) bags;
          entities = ap (λ bag. written_entities N refer before.entity_types.items ++ declared_entities bag) bags;
          actions = ap (λ bag. written_actions N refer before.actions.items ++ declared_actions bag) bags;
        }

    -- what one more declares is collected
    pub collect_next : (whole : Bag) (made after : Declarations N) (left rest : List X) (x : X) → left ≡ x ∷ rest → CollectsAlso N refer made (f x) after
        → CollectsTogether before whole made (flat_map f left) → CollectsTogether before whole after (flat_map f rest)
    collect_next whole made after left rest x is also so_far =
        record {
          common = next_read _ (written_common N refer made.common_types.items) _ _ (f x) (flat_map f rest) also.common
              (ap (λ items. written_common N refer made.common_types.items ++ declared_common (flat_map f items)) (sym is) ∙ so_far.common);
          entities = next_read _ (written_entities N refer made.entity_types.items) _ _ (f x) (flat_map f rest) also.entities
              (ap (λ items. written_entities N refer made.entity_types.items ++ declared_entities (flat_map f items)) (sym is) ∙ so_far.entities);
          actions = next_read _ (written_actions N refer made.actions.items) _ _ (f x) (flat_map f rest) also.actions
              (ap (λ items. written_actions N refer made.actions.items ++ declared_actions (flat_map f items)) (sym is) ∙ so_far.actions);
        }

    -- where none is left, all that is declared is collected
    pub collect_all : (whole : Bag) (made : Declarations N) (left : List X) → left ≡ [] → CollectsTogether before whole made (flat_map f left)
        → CollectsAlso N refer before whole made
    collect_all whole made left nothing so_far =
        record {
          common = sym (append-nil _) ∙ (ap (λ items. written_common N refer made.common_types.items ++ declared_common (flat_map f items)) (sym nothing)
              ∙ so_far.common);
          entities = sym (append-nil _)
              ∙ (ap (λ items. written_entities N refer made.entity_types.items ++ declared_entities (flat_map f items)) (sym nothing) ∙ so_far.entities);
          actions = sym (append-nil _) ∙ (ap (λ items. written_actions N refer made.actions.items ++ declared_actions (flat_map f items)) (sym nothing)
              ∙ so_far.actions);
        }

  -- where the parts of a definition of a namespace are collected, it is
  pub collect_parts : (before after : Declarations N) (bag : Bag) (namespace : Option PlainName) (common : CommonTypeDefs N)
      (entities : EntityTypesDef N) (actions : ActionsDef N N)
      → bag ≡ common_type_declarations N (refer namespace) common ++ entity_type_declarations N (refer namespace) entities
      ++ action_fragment_declarations N (refer namespace) N (refer namespace) actions
      → written_common N refer after.common_types.items ≡ written_common N refer before.common_types.items
      ++ declared_common (common_type_declarations N (refer namespace) common)
      → written_entities N refer after.entity_types.items ≡ written_entities N refer before.entity_types.items
      ++ declared_entities (entity_type_declarations N (refer namespace) entities)
      → written_actions N refer after.actions.items ≡ written_actions N refer before.actions.items
      ++ declared_actions (action_fragment_declarations N (refer namespace) N (refer namespace) actions)
      → CollectsAlso N refer before bag after
  collect_parts before after bag namespace common entities actions parts of_common of_entities of_actions =
      record {
        common = of_common ∙ ap (λ more. written_common N refer before.common_types.items ++ more)
            (sym (ap declared_common parts ∙ common_of_three N (refer namespace) N (refer namespace) common entities actions));
        entities = of_entities ∙ ap (λ more. written_entities N refer before.entity_types.items ++ more)
            (sym (ap declared_entities parts ∙ entities_of_three N (refer namespace) N (refer namespace) common entities actions));
        actions = of_actions ∙ ap (λ more. written_actions N refer before.actions.items ++ more)
            (sym (ap declared_actions parts ∙ actions_of_three N (refer namespace) N (refer namespace) common entities actions));
      }
