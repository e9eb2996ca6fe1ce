-- A bag that isn't ill-formed declares a schema.
use Rattle.std.proofs.Common.{◌≡◌, ◌↔◌, List, [], ◌∷◌, map, ap, inl, inr, refl, arith, Contains}
use Rattle.std.specs.Cmp.{IsTotalOrder}
use Rattle.std.specs.List.Sorted.{IsStrictlySortedBy}
use Rattle.std.specs.declared.cmp.Ordering.{Ordering}
use Rattle.std.specs.declared.cmp.Ordering.TheVariants.{Equal}
use Rattle.cedar_ast.proofs.Lists.{Contains-cons, Contains-cons_cases}
use Rattle.cedar_ast.proofs.PlainNames.{name_cmp-Equal, name_cmp-total, uid_cmp-Equal, uid_cmp-total}
use Rattle.cedar_schema_laws.proofs.DeclaredKinds.{action_kind, action_says, entity_kind, entity_says}
use Rattle.cedar_schema_laws.proofs.ListDecisions.{in_order}
use Rattle.cedar_schema_laws.proofs.ListedEntities.{list_entities}
use Rattle.cedar_schema_laws.proofs.ReferenceDecisions.{list_descendant_actions, list_descendants}
use Rattle.cedar_schema_laws.specs.Words.{Bag, BagsDeclareASchema, Extensions, IsDeclaredAction, IsDeclaredEntityType, IsIllFormed, PlainName, PlainSchema, PlainUid, SchemaAction, SchemaEntityType, action_uids, declared_entities, name_cmp, uid_cmp}

-- each key has a value that fits it, so that the keys are those of entries that fit
entries_of : {K V : Type 0} (Fits : K × V → Type 0) (keys : List K)
    → ((key : K) → Contains keys key → (value : V) × Fits (key, value))
    → (entries : List (K × V)) × ((it : K × V) → Contains entries it → Fits it) × (map (λ it. it.0) entries ≡ keys)
entries_of Fits [] each = ([], λ it among. absurd (omega (arith, among.1)), refl)
entries_of Fits (key ∷ rest) each =
    let first = each key (Contains-cons key rest key (inl refl)) in
    let later = entries_of Fits rest (λ other among. each other (Contains-cons key rest other (inr among))) in (
      (key, first.0) ∷ later.0,
      λ it among. elim (Contains-cons_cases (key, first.0) later.0 it among) [
        | inl here ↦ rw here at first.1
        | inr there ↦ later.1 it there
      ],
      ap (λ others. key ∷ others) later.2,
    )

-- entries that fit, one for each of some keys, which are sorted
record Table {K V : Type 0} (R : K → K → Ordering) (Fits : K × V → Type 0) (keys : List K) : Type 0 where
  entries : List (K × V)
  fit : (it : K × V) → Contains entries it → Fits it
  each : (key : K) → Contains keys key → Contains (map (λ it. it.0) entries) key
  sorted_by_name : IsStrictlySortedBy R (map (λ it. it.0) entries)

-- where each of some keys has a value that fits it, there are such entries
table_of : {K V : Type 0} (R : K → K → Ordering) → IsTotalOrder R → ((x y : K) → (R x y ≡ Equal) ↔ (x ≡ y))
    → (Fits : K × V → Type 0) (keys : List K) → ((key : K) → Contains keys key → (value : V) × Fits (key, value))
    → Table R Fits keys
table_of R total ties Fits keys each =
    let ordered = in_order R total ties keys in
    let all = entries_of Fits ordered.0 (λ key among. each key ((ordered.1 key).0 among)) in
    record {
      entries = all.0;
      fit = all.1;
      each = λ key among. rw all.2 ((ordered.1 key).1 among);
      sorted_by_name = rw all.2 ordered.2;
    }

module _ (bag : Bag) (extensions : Extensions) (well : ¬ IsIllFormed bag extensions) where
  -- a declared entity type is one of a schema
  entity_type_of : (name : PlainName) → Contains (map (λ it. it.0) (declared_entities bag)) name → (it : SchemaEntityType)
      × IsDeclaredEntityType bag extensions (name, it)
  entity_type_of name among =
      let says = entity_says bag name among in
      let kind = entity_kind bag extensions well name says.0 says.1 in
      let below = list_descendants bag extensions name in (
        record { name = name; kind = kind.0; descendants = below.0 },
        record { body = says.0; says = says.1; name = refl; kind = kind.1; descendants = below.1 },
      )

  -- a declared action is one of a schema
  action_of : (uid : PlainUid) → Contains (action_uids bag) uid → (it : SchemaAction) × IsDeclaredAction bag extensions (uid, it)
  action_of uid among =
      let says = action_says bag uid among in
      let kind = action_kind bag extensions well uid says.0 says.1 in
      let below = list_descendant_actions bag uid in (
        record { uid = uid; kind = kind.0; descendants = below.0 },
        record { applies_to = says.0; says = says.1; uid = refl; kind = kind.1; descendants = below.1 },
      )

-- a bag that isn't ill-formed declares a schema
pub declared_schema : BagsDeclareASchema
declared_schema bag extensions well =
    let types = table_of name_cmp name_cmp-total name_cmp-Equal (IsDeclaredEntityType bag extensions)
    (map (λ it. it.0) (declared_entities bag)) (entity_type_of bag extensions well) in
    let actions = table_of uid_cmp uid_cmp-total uid_cmp-Equal (IsDeclaredAction bag extensions) (action_uids bag)
    (action_of bag extensions well) in
    let bare : PlainSchema = record { entity_types = types.entries; actions = actions.entries; action_entities = [] } in
    let entities = list_entities bare in (
      record bare { action_entities = entities.0 },
      record {
        entity_types = types.fit;
        each_entity_type = types.each;
        entity_types_in_order = types.sorted_by_name;
        actions = actions.fit;
        each_action = actions.each;
        actions_in_order = actions.sorted_by_name;
        action_entities = entities.1;
      },
    )
