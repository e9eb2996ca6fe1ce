-- What is gathered of fragments, and of one more.
use Rattle.std.proofs.Common.{◌≡◌, List, [], ◌∷◌, ◌++◌, Option, ap, sym, ◌∙◌}
use Rattle.std.proofs.lemmas.Grind.{flat_map-append}
use Rattle.std.proofs.lemmas.List.{flat_map_more}
use Rattle.std.specs.List.{flat_map}
use Rattle.cedar_fragments.specs.Words.{AreCollectedDeclarations, Bag, CollectedDeclarations, Collects, CollectsAlso, Declaration, Declarations, HasAlso, HoldsAlso, PlainName, Reference, ReferenceType, SameItems, ValidatorSchemaFragment, fragment_names, listed_names, written_bag, written_fragment}
use Rattle.cedar_name_resolution.proofs.NamesDefined.{also_appended}

-- what has the items of some and those that one more gives has just those that all give
one_more_has : {X P : Type 0} (f : X → List P) (xs : List X) (x : X) (after before : List P) → HasAlso after before (f x)
    → SameItems before (flat_map f xs) → SameItems after (flat_map f (xs ++ x ∷ []))
one_more_has f xs x after before also so_far =
    rw (flat_map_more f [] xs x) at
    (also_appended after before (f x) (flat_map f xs) (f x) also so_far (λ item. (λ among. among, λ among. among)))

-- what is read of a bag and of another behind it is read of both
one_more_read : {P : Type 0} (read : Declaration → List P) (after before : List P) (bag more both : Bag) → after ≡ before ++ flat_map read more
    → before ≡ flat_map read bag → bag ++ more ≡ both → after ≡ flat_map read both
one_more_read read after before bag more both also so_far is =
    also ∙ (ap (λ items. items ++ flat_map read more) so_far ∙ (sym (flat_map-append read bag more) ∙ ap (flat_map read) is))

-- over names of some form, where it is given what a name refers to in a namespace at a place of
-- each kind
module _ (N : Type 0) (refer : Option PlainName → ReferenceType → N → Reference) where
  -- what is collected also of a bag behind another is collected of both
  collect_more : (before after : Declarations N) (bag more both : Bag) → CollectsAlso N refer before more after → bag ++ more ≡ both
      → Collects N refer bag before → Collects N refer both after
  collect_more before after bag more both also is so_far = record {
    common = one_more_read _ _ _ bag more both also.common so_far.common is;
    entities = one_more_read _ _ _ bag more both also.entities so_far.entities is;
    actions = one_more_read _ _ _ bag more both also.actions so_far.actions is;
  }

  -- what is gathered of fragments, and also of one more, is gathered of all
  pub gather_more : (fragments : List (ValidatorSchemaFragment N N)) (fragment : ValidatorSchemaFragment N N) (before after : CollectedDeclarations N)
      → HoldsAlso (listed_names after.names) (listed_names before.names) (fragment_names N N fragment)
      → CollectsAlso N refer before.declarations (written_fragment N refer fragment) after.declarations
      → AreCollectedDeclarations N refer fragments before → AreCollectedDeclarations N refer (fragments ++ fragment ∷ []) after
  gather_more fragments fragment before after named collected so_far = record {
    names = record {
      common = one_more_has (λ each. (fragment_names N N each).common) fragments fragment _ _ named.common so_far.names.common;
      entities = one_more_has (λ each. (fragment_names N N each).entities) fragments fragment _ _ named.entities so_far.names.entities;
      actions = one_more_has (λ each. (fragment_names N N each).actions) fragments fragment _ _ named.actions so_far.names.actions;
    };
    declarations = collect_more before.declarations after.declarations (written_bag N refer fragments) (written_fragment N refer fragment) _
        collected (flat_map_more (written_fragment N refer) [] fragments fragment) so_far.declarations;
  }
