use Rattle.std.specs.List.{flat_map}
use Rattle.std.specs.Prelude.{◌≡◌, ◌⊎◌, ◌↔◌, List, Option, MatchOption, map, Contains}
use Rattle.cedar_ast.specs.Words.{SameItems, name_of, uid_of}
use Rattle.cedar_name_resolution.specs.declared.defs.all_defs.AllDefs.{AllDefs}
use Rattle.cedar_name_resolution.specs.declared.defs.name_lists.NameLists.{NameLists}
use Rattle.cedar_schema_semantics.specs.Words.{Bag, Names, action_uids, declared_common, declared_entities}

-- the names that are held: of common types, of entity types, and the uids of actions
abbrev pub held_names : AllDefs → Names
held_names it = record {
  common = map name_of it.common_defs.keys;
  entities = map name_of it.entity_defs.keys;
  actions = map uid_of it.action_defs.keys;
}

-- the names that are listed, each as often as it is
abbrev pub listed_names : NameLists → Names
listed_names it = record {
  common = map name_of it.common.items;
  entities = map name_of it.entities.items;
  actions = map uid_of it.actions.items;
}

-- the names that some declare together, where it is given what each declares
abbrev pub names_together : {F : Type 0} → (F → Names) → List F → Names
names_together declared all = record {
  common = flat_map (λ one. (declared one).common) all;
  entities = flat_map (λ one. (declared one).entities) all;
  actions = flat_map (λ one. (declared one).actions) all;
}

-- a list has the items of one list and those of another, and no others
abbrev pub HasAlso : {P : Type 0} → List P → List P → List P → Type 0
HasAlso {P = P} after before more = (item : P)
    → Contains after item ↔ (Contains before item ⊎ Contains more item)

-- names are those of some others and also some more
pub record HoldsAlso (after before more : Names) : Type 0 where
  pub common : HasAlso after.common before.common more.common
  pub entities : HasAlso after.entities before.entities more.entities
  pub actions : HasAlso after.actions before.actions more.actions

-- names are the same, whatever their order and repeats
pub record HoldsJust (held names : Names) : Type 0 where
  pub common : SameItems held.common names.common
  pub entities : SameItems held.entities names.entities
  pub actions : SameItems held.actions names.actions

-- names are just those that the declarations of a bag give: of common types, of entity types, and
-- the uids of actions
pub record AreTheDeclaredNames (names : Names) (bag : Bag) : Type 0 where
  pub common : names.common ≡ map (λ it. it.0) (declared_common bag)
  pub entities : names.entities ≡ map (λ it. it.0) (declared_entities bag)
  pub actions : names.actions ≡ action_uids bag

-- the names that the declarations of a bag give: of common types, of entity types, and the uids of
-- actions
abbrev pub names_given : Bag → Names
names_given bag = record {
  common = map (λ it. it.0) (declared_common bag);
  entities = map (λ it. it.0) (declared_entities bag);
  actions = action_uids bag;
}

-- something is there exactly where the fact holds, and it stands for the item
abbrev pub StandsWhere : {R P : Type 0} → (R → P) → P → Type 0 → Option R → Type 0
StandsWhere f item fact found = MatchOption found (¬ fact) (λ one. (f one ≡ item) × fact)
