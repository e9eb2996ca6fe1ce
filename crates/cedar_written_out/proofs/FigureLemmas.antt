-- Figures of common types, found one after another.
use Rattle.std.proofs.Common.{◌≡◌, ◌≢◌, ◌⊎◌, ◌<◌, ◌++◌, ℕ, zero, suc, List, [], ◌∷◌, Option, Vec, length, get_or, set, replicate, None, Some, ap, sym, subst, ◌∙◌, refl, inl, inr, Contains, arith}
use Rattle.std.proofs.Math.ListN.{length-map}
use Rattle.std.proofs.lemmas.List.Elements.{Contains-append_cases, Contains-get_or}
use Rattle.std.proofs.lemmas.Option.{slice_get_within}
use Rattle.std.specs.Prelude.{slice_get}
use Rattle.cedar_ast.proofs.Basics.{Contains-single}
use Rattle.cedar_ast.specs.declared.internal_name.InternalName.{InternalName}
use Rattle.cedar_elaboration.proofs.IndexLemmas.{Contains-at, index_once}
use Rattle.cedar_elaboration.proofs.OrderLemmas.{AreTargets, as_many, name_at, same_length, targets_at}
use Rattle.cedar_elaboration.proofs.ScopeLemmas.{same_resolves}
use Rattle.cedar_schema_ast.specs.declared.json_schema.type_of.Type.{«Type»}
use Rattle.cedar_written_out.proofs.CycleLemmas.{no_type_on_cycle}
use Rattle.cedar_written_out.specs.Words.{AreFigures, AreIndices, Chain, Defined, DefinesJust, Expr, HoldsJust, IsLowestFirst, IsMeasured, Knows, LeadsTo, MayNameCommon, Names, PlainName, RawName, Reference, Refers, ResolvesTo, Written, figure_at, held_names, indexed_names, item_names, items_at, name_of, names_of, raw_reference, written_common, written_expr}
use Rattle.cedar_written_out.specs.declared.figure.Figure.{Figure}
use Rattle.cedar_written_out.specs.declared.measuring.FigureScope.{FigureScope}

-- a number is another or isn't
same_or_not : (a b : ℕ) → (a ≡ b) ⊎ (a ≢ b)
same_or_not zero zero = inl refl
same_or_not zero (suc b) = inr (λ same. omega (arith, same))
same_or_not (suc a) zero = inr (λ same. omega (arith, same))
same_or_not (suc a) (suc b) =
    elim (same_or_not a b) [ inl same ↦ inl (ap suc same) | inr apart ↦ inr (λ same. apart (omega (arith, same))) ]

-- where there are no figures, none stands at a place
none_at : (count place : ℕ) → figure_at (replicate count None) place ≡ None
none_at zero place = refl
none_at (suc count) zero = refl
none_at (suc count) (suc place) = none_at count place

-- a figure that was put at a place stands there
put_here : (figures : List (Option Figure)) (place : ℕ) (found : Option Figure) → place < length figures
    → figure_at (set figures place found) place ≡ found
put_here [] place found within = absurd (omega (arith, within))
put_here (first ∷ rest) zero found within = refl
put_here (first ∷ rest) (suc place) found within = put_here rest place found (omega (arith, within))

-- and at other places stands what stood there
put_elsewhere : (figures : List (Option Figure)) (place other : ℕ) (found : Option Figure) → other ≢ place
    → figure_at (set figures place found) other ≡ figure_at figures other
put_elsewhere [] place other found apart = refl
put_elsewhere (first ∷ rest) zero zero found apart = absurd (apart refl)
put_elsewhere (first ∷ rest) zero (suc other) found apart = refl
put_elsewhere (first ∷ rest) (suc place) zero found apart = refl
put_elsewhere (first ∷ rest) (suc place) (suc other) found apart = put_elsewhere rest place other found (λ same. apart (ap suc same))

module _ (defined : Defined) (items : List (PlainName × Expr)) where
  -- the figures of some places are found, and no other place has one that isn't that of its common
  -- type
  pub record FiguresSoFar (before : List ℕ) (figures : List (Option Figure)) : Type 0 where
    pub measured : (place : ℕ) → Contains before place → (item : PlainName × Expr) → slice_get items place ≡ Some item
        → IsMeasured defined item.1 (figure_at figures place)
    pub given : (place : ℕ) (figure : Figure) → figure_at figures place ≡ Some figure → (item : PlainName × Expr)
        → slice_get items place ≡ Some item → IsMeasured defined item.1 (Some figure)

  -- at first none is
  pub FiguresSoFar-none : (count : ℕ) (figures : List (Option Figure)) → figures ≡ replicate count None → FiguresSoFar [] figures
  FiguresSoFar-none count figures are = record {
    measured = λ place among. absurd (omega (arith, among.1));
    given = λ place figure is.
        let At : List (Option Figure) → Type 0 = λ list. figure_at list place ≡ Some figure in
        absurd (differ (sym (none_at count place) ∙ subst At are is));
  }
    where
      differ : {figure : Figure} → ¬ (None ≡ Some figure)
      differ same = cc

  -- one more is
  pub FiguresSoFar-more : (before : List ℕ) (figures : List (Option Figure)) (place : ℕ) (item : PlainName × Expr) (found : Option Figure)
      → place < length figures → slice_get items place ≡ Some item → IsMeasured defined item.1 found
      → FiguresSoFar before figures → FiguresSoFar (before ++ place ∷ []) (set figures place found)
  FiguresSoFar-more before figures place item found within is measured so_far = record {
    measured = λ other among each stands. elim (same_or_not other place) [
      | inl same ↦ here other same each stands
      | inr apart ↦
          let P : Option Figure → Type 0 = IsMeasured defined each.1 in
          subst P (sym (put_elsewhere figures place other found apart)) (so_far.measured other
          (elim (Contains-append_cases before (place ∷ []) other among) [
            | inl old ↦ old
            | inr new ↦ absurd (apart (sym (Contains-single place other new)))
          ]) each stands)
    ];
    given = λ other figure at each stands. elim (same_or_not other place) [
      | inl same ↦
          let P : Option Figure → Type 0 = IsMeasured defined each.1 in
          subst P at (here other same each stands)
      | inr apart ↦ so_far.given other figure (sym (put_elsewhere figures place other found apart) ∙ at) each stands
    ];
  }
    where
      here : (other : ℕ) → other ≡ place → (each : PlainName × Expr) → slice_get items other ≡ Some each
          → IsMeasured defined each.1 (figure_at (set figures place found) other)
      here other same each stands =
          let At : ℕ → Type 0 = λ n. slice_get items n ≡ Some each in
          let there : slice_get items place ≡ Some each = subst At same stands in
          let it : item ≡ each = cc in
          let P : Option Figure → Type 0 = IsMeasured defined each.1 in
          let Q : ℕ → Type 0 = λ n. IsMeasured defined each.1 (figure_at (set figures place found) n) in
          let R : PlainName × Expr → Type 0 = λ one. IsMeasured defined one.1 found in
          subst Q (sym same) (subst P (sym (put_here figures place found within)) (subst R it measured))

  module _ {Z : Type 0} (names : Names) (indices : List (PlainName × ℕ)) (targets : List (Vec ℕ Z)) (defines : DefinesJust items names defined)
      (numbered : AreIndices (item_names items) indices) (turns : AreTargets names indices items targets) (order : List ℕ)
      (lowest : IsLowestFirst targets order) where
    -- an index of an order is that of an item
    pub index_within : (place : ℕ) → Contains order place → place < length items
    index_within place among =
        let IsWithin : ℕ → Type 0 = λ count. place < count in
        subst IsWithin (sym (as_many names items indices targets numbered turns)) ((lowest.each place).0 among)

    -- enough is known for the next definition
    pub Knows-next : (before rest : List ℕ) (place : ℕ) (item : PlainName × Expr) (scope : FigureScope)
        → order ≡ before ++ place ∷ rest → slice_get items place ≡ Some item → held_names scope.defs.now ≡ names
        → indexed_names scope.indices.now ≡ indices → FiguresSoFar before scope.figures.now → Knows defined scope item.1
    Knows-next before rest place item scope split is same_names same_indices so_far = record {
      defines = record {
        common = refl;
        names = rw same_names defines.names;
        once = rw defines.common defines.once;
      };
      indices = rw (defines.common, same_indices) numbered;
      figures = λ reference refers may other to resolves stands.
          let At : List (PlainName × Expr) → Type 0 = λ list. slice_get list to ≡ Some other in
          known reference refers may other to resolves (subst At defines.common stands);
    }
      where
        back : HoldsJust (names_of defined) names
        back = record {
          common = λ name. ((defines.names.common name).1, (defines.names.common name).0);
          entities = λ name. ((defines.names.entities name).1, (defines.names.entities name).0);
          actions = λ uid. ((defines.names.actions uid).1, (defines.names.actions uid).0);
        }

        known : (reference : Reference) → Refers item.1 reference → MayNameCommon reference.kind → (other : PlainName × Expr) (to : ℕ)
            → ResolvesTo (names_of defined) reference other.0 → slice_get items to ≡ Some other
            → IsMeasured defined other.1 (figure_at scope.figures.now to)
        known reference refers may other to resolves stands =
            let named = name_at items to other stands in
            let found = (targets_at names items indices targets numbered turns place item is).each reference refers may other.0
            (same_resolves (names_of defined) names back reference other.0 resolves)
            (numbered.each other.0 (Contains-at (item_names items) to other.0 named)) in
            let same : found.0 ≡ to = index_once (item_names items) defines.once found.0 to other.0 (numbered.sound other.0 found.0 found.1) named in
            let Leads : ℕ → Type 0 = λ n. Contains (items_at_place) n in
            let IsWithin : ℕ → Type 0 = λ count. to < count in
            let leads : LeadsTo targets place to = (
              subst Leads same found.2,
              subst IsWithin (as_many names items indices targets numbered turns) (slice_get_within items to other stands),
            ) in
            elim (lowest.after before rest place to split leads) [
              | inl past ↦ so_far.measured to past other stands
              | inr cycle ↦ on_cycle other to stands cycle (figure_at scope.figures.now to) refl
            ]
          where
            items_at_place : List ℕ
            items_at_place = items_at targets place

            on_cycle : (each : PlainName × Expr) (at : ℕ) → slice_get items at ≡ Some each → Chain (LeadsTo targets) at at
                → (figure : Option Figure) → figure_at scope.figures.now at ≡ figure → IsMeasured defined each.1 figure
            on_cycle each at stands' cycle (Some figure) is' = so_far.given at figure is' each stands'
            on_cycle each at stands' cycle None is' =
                no_type_on_cycle defined names items indices targets defines numbered turns at each stands' cycle

    -- where the order is gone through, all figures are found
    pub AreFigures-whole : (figures : List (Option Figure)) → FiguresSoFar order figures → AreFigures defined figures
    AreFigures-whole figures so_far place item stands =
        let At : List (PlainName × Expr) → Type 0 = λ list. slice_get list place ≡ Some item in
        let here = subst At defines.common stands in
        let IsWithin : ℕ → Type 0 = λ count. place < count in
        so_far.measured place ((lowest.each place).1 (subst IsWithin (as_many names items indices targets numbered turns)
        (slice_get_within items place item here))) item here

-- the index that an order has at a place is one of a common type
pub order_within : {Z : Type 0} (types : List (InternalName × Written («Type» RawName))) (names : Names) (indices : List (PlainName × ℕ))
    (targets : List (Vec ℕ Z)) → AreTargets names indices (written_common RawName raw_reference types) targets → (order : List ℕ)
    → IsLowestFirst targets order → (index : ℕ) → index < length order → get_or order index 0 < length types
order_within types names indices targets turns order lowest index below =
    let place = get_or order index 0 in
    let IsWithin : ℕ → Type 0 = λ count. place < count in
    subst IsWithin (sym (same_length _ (written_common RawName raw_reference types) targets turns)
    ∙ length-map types (λ it. (name_of it.0, written_expr RawName raw_reference it.1)))
    ((lowest.each place).0 (Contains-get_or order index 0 below))
