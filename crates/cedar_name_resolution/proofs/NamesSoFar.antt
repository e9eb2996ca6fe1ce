-- Names that are collected from what declares them, one after another.
use Rattle.std.proofs.Common.{◌≡◌, ℕ, ◌+◌, ◌<◌, ◌≤◌, List, [], length, get_or, take}
use Rattle.cedar_name_resolution.proofs.SetLemmas.{HasAlso-next_ones, HasAlso-all_ones, SameItems-from_none, SameItems-through}
use Rattle.cedar_name_resolution.specs.Words.{HoldsAlso, HoldsJust, Names, names_together}

module _ {F : Type 0} (declared : F → Names) where
  -- those of one more
  pub names_next : (before middle after : Names) (items : List F) (i : ℕ) (item : F)
      → i < length items → item ≡ get_or items i item → HoldsAlso middle before (names_together declared (take i items))
      → HoldsAlso after middle (declared item) → HoldsAlso after before (names_together declared (take (i + 1) items))
  names_next before middle after items i item lt is so_far added = record {
    common = HasAlso-next_ones (λ each. (declared each).common) before.common items middle.common after.common i item lt is
        so_far.common added.common;
    entities = HasAlso-next_ones (λ each. (declared each).entities) before.entities items middle.entities after.entities i item lt is
        so_far.entities added.entities;
    actions = HasAlso-next_ones (λ each. (declared each).actions) before.actions items middle.actions after.actions i item lt is
        so_far.actions added.actions;
  }

  -- those of all
  pub names_all : (before after : Names) (items : List F) (i : ℕ) → length items ≤ i
      → HoldsAlso after before (names_together declared (take i items)) → HoldsAlso after before (names_together declared items)
  names_all before after items i le so_far = record {
    common = HasAlso-all_ones (λ each. (declared each).common) before.common items after.common i le so_far.common;
    entities = HasAlso-all_ones (λ each. (declared each).entities) before.entities items after.entities i le so_far.entities;
    actions = HasAlso-all_ones (λ each. (declared each).actions) before.actions items after.actions i le so_far.actions;
  }

-- what is more than nothing is just that
pub just_these : (before after more : Names) → before.common ≡ [] → before.entities ≡ [] → before.actions ≡ []
    → HoldsAlso after before more → HoldsJust after more
just_these before after more common entities actions also = record {
  common = SameItems-from_none after.common before.common more.common common also.common;
  entities = SameItems-from_none after.entities before.entities more.entities entities also.entities;
  actions = SameItems-from_none after.actions before.actions more.actions actions also.actions;
}

-- names that are just those of a second kind, which are just those of a third
pub HoldsJust-through : (held listed names : Names) → HoldsJust held listed → HoldsJust listed names → HoldsJust held names
HoldsJust-through held listed names first second = record {
  common = SameItems-through held.common listed.common names.common first.common second.common;
  entities = SameItems-through held.entities listed.entities names.entities first.entities second.entities;
  actions = SameItems-through held.actions listed.actions names.actions first.actions second.actions;
}
