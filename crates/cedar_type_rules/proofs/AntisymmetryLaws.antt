-- Well-formed types that are below each other are the same.
use Rattle.std.proofs.Common.{◌≡◌, inl, inr, Bool, true, false, refl, sym, ap, ◌∙◌, List, [], ◌∷◌, Contains, arith}
use Rattle.std.proofs.lemmas.List.Elements.{All-contains, All-from_recursion}
use Rattle.std.specs.Cmp.{IsTotalOrder}
use Rattle.std.specs.List.Sorted.{IsStrictlySortedBy}
use Rattle.std.specs.declared.cmp.Ordering.{Ordering}
use Rattle.std.specs.declared.cmp.Ordering.TheVariants.{Less}
use Rattle.cedar_ast.proofs.Lists.{Contains-cons, Contains-cons_cases}
use Rattle.cedar_ast.proofs.Ordered.{apart, not_itself}
use Rattle.cedar_ast.proofs.PlainNames.{name_cmp-total}
use Rattle.cedar_ast.proofs.Texts.{text_cmp-total}
use Rattle.cedar_type_rules.proofs.AgreeLaws.{AreWellFormed-of, HasField-once}
use Rattle.cedar_type_rules.proofs.SubtypeLaws.{FieldsWithin, HasBelow-of, HasField-name, HasField-named, FieldsBelow-names}
use Rattle.cedar_type_rules.proofs.SubtypeLemmas.{HasField-all}
use Rattle.cedar_type_rules.specs.Words.{AreWellFormed, Below, ClosedAttributes, Fields, FieldsBelow, FlagsBelow, HasField, Included, IsSortedByName, IsWellFormed, OpenAttributes, OpenTag, OpennessBelow, Permissive, Strict, Text, Ty, ValidationMode, any_entity, any_set, end, extension_of, field, field_names, long, name_cmp, never, record_of, set_of, text, text_cmp, truth, union_of}

-- sorted lists without duplicates and include each other are the same
pub Included-same : {B : Type 0} (R : B → B → Ordering) → IsTotalOrder R → (xs ys : List B) → IsStrictlySortedBy R xs
    → IsStrictlySortedBy R ys → Included xs ys → Included ys xs → xs ≡ ys
unfolding IsStrictlySortedBy
Included-same R total [] [] first second forth back = refl
Included-same R total [] (y ∷ ys) first second forth back =
    absurd (omega (arith, (back y (Contains-cons y ys y (inl refl))).1))
Included-same R total (x ∷ xs) [] first second forth back =
    absurd (omega (arith, (forth x (Contains-cons x xs x (inl refl))).1))
Included-same {B = B} R total (x ∷ xs) (y ∷ ys) first second forth back =
    let above_first = λ (z : B) (among : Contains xs z). All-contains (λ z. R x z ≡ Less) xs z
    (All-from_recursion (λ z. R x z ≡ Less) xs first.0) among in
    let above_second = λ (z : B) (among : Contains ys z). All-contains (λ z. R y z ≡ Less) ys z
    (All-from_recursion (λ z. R y z ≡ Less) ys second.0) among in
    let same : x ≡ y =
    elim (Contains-cons_cases y ys x (forth x (Contains-cons x xs x (inl refl)))) [
      | inl e ↦ sym e
      | inr there ↦
          elim (Contains-cons_cases x xs y (back y (Contains-cons y ys y (inl refl)))) [
            | inl e ↦ e
            | inr also ↦ absurd (apart R total x y (above_first y also) (above_second x there))
          ]
    ] in
    let rest : xs ≡ ys =
    Included-same R total xs ys first.1 second.1
    (λ z among. elim (Contains-cons_cases y ys z (forth z (Contains-cons x xs z (inr among)))) [
      | inl e ↦ absurd (not_itself R total x z (same ∙ e) (above_first z among))
      | inr there ↦ there
    ]) (λ z among. elim (Contains-cons_cases x xs z (back z (Contains-cons y ys z (inr among)))) [
      | inl e ↦ absurd (not_itself R total y z (sym same ∙ e) (above_second z among))
      | inr there ↦ there
    ]) in
    λ i. same i ∷ rest i

-- records whose names are sorted without duplicates and that have each other's attributes are the
-- same
Fields-same : (a b : Fields) → IsSortedByName a → IsSortedByName b → FieldsWithin a b → FieldsWithin b a → a ≡ b
unfolding IsStrictlySortedBy
Fields-same end end first second forth back = refl
Fields-same end (field k s u bs) first second forth back = absurd (back k s u (inl (refl, refl, refl)))
Fields-same (field n r t front) end first second forth back = absurd (forth n r t (inl (refl, refl, refl)))
Fields-same (field n r t front) (field k s u bs) first second forth back =
    let above_first = λ (m : Text) (q : Bool) (v : Ty) (has : HasField front m q v). HasField-all
    (λ z. text_cmp n z ≡ Less) m front q v has first.0 in
    let above_second = λ (m : Text) (q : Bool) (v : Ty) (has : HasField bs m q v). HasField-all
    (λ z. text_cmp k z ≡ Less) m bs q v has second.0 in
    let heads : (n ≡ k) × (r ≡ s) × (t ≡ u) =
    elim (forth n r t (inl (refl, refl, refl))) [
      | inl e ↦ (sym e.0, sym e.1, sym e.2)
      | inr there ↦
          elim (back k s u (inl (refl, refl, refl))) [
            | inl e ↦ e
            | inr also ↦ absurd (apart text_cmp text_cmp-total n k (above_first k s u also) (above_second n r t there))
          ]
    ] in
    let rest : front ≡ bs =
    Fields-same front bs first.1 second.1 (λ m q v has. elim (forth m q v (inr has)) [
      | inl e ↦ absurd (not_itself text_cmp text_cmp-total n m (heads.0 ∙ e.0) (above_first m q v has))
      | inr there ↦ there
    ]) (λ m q v has. elim (back m q v (inr has)) [
      | inl e ↦ absurd (not_itself text_cmp text_cmp-total k m (sym heads.0 ∙ e.0) (above_second m q v has))
      | inr there ↦ there
    ]) in
    λ i. field (heads.0 i) (heads.1 i) (heads.2 i) (rest i)

-- flags that fit below each other are the same
FlagsBelow-same : (mode : ValidationMode) (a b : Bool) → FlagsBelow mode a b → FlagsBelow mode b a → a ≡ b
FlagsBelow-same Strict a b h k = h
FlagsBelow-same Permissive true true h k = refl
FlagsBelow-same Permissive true false h k = sym (k refl)
FlagsBelow-same Permissive false true h k = h refl
FlagsBelow-same Permissive false false h k = refl

-- tags that fit below each other are the same
OpennessBelow-same : (a b : OpenTag) → OpennessBelow a b → OpennessBelow b a → a ≡ b
OpennessBelow-same OpenAttributes OpenAttributes h k = refl
OpennessBelow-same OpenAttributes ClosedAttributes h k = elim h [ ]
OpennessBelow-same ClosedAttributes OpenAttributes h k = elim k [ ]
OpennessBelow-same ClosedAttributes ClosedAttributes h k = refl

-- where one record has the other's attributes, and its names are among the other's, the other has
-- its attributes
FieldsWithin-back : (a b : Fields) → IsSortedByName a → FieldsWithin b a → Included (field_names a) (field_names b) → FieldsWithin a b
FieldsWithin-back a b sorted_by_name within names name required ty has =
    let found = HasField-named b name (names name (HasField-name a name required ty has)) in
    let same = HasField-once a name found.0 required found.1 ty sorted_by_name (within name found.0 found.1 found.2) has in
    rw (same.0, same.1) at found.2

mutual
  -- well formed types below each other are the same
  pub Below-same : (mode : ValidationMode) (a b : Ty) → IsWellFormed a → IsWellFormed b → Below mode a b → Below mode b a → a ≡ b
  Below-same mode never never first second h k = refl
  Below-same Strict never (union_of b) first second h k = elim k [ ]
  Below-same Permissive never (union_of b) first second h k = elim k [ ]
  Below-same mode never b first second h k = elim k [ ]
  Below-same mode (truth a) (truth b) first second h k =
      ap truth (elim h [ inl any ↦ elim k [ inl also ↦ also ∙ sym any | inr same ↦ sym same ] | inr same ↦ same ])
  Below-same mode long long first second h k = refl
  Below-same mode text text first second h k = refl
  Below-same mode any_entity any_entity first second h k = refl
  Below-same Permissive (union_of a) any_entity first second h k = elim k [ ]
  Below-same Permissive (union_of a) (union_of b) first second h k =
      ap union_of (Included-same name_cmp name_cmp-total a b first.1 second.1 h k)
  Below-same Strict (union_of a) (union_of b) first second h k = ap union_of h
  Below-same mode any_set any_set first second h k = refl
  Below-same mode (set_of a) any_set first second h k = elim k [ ]
  Below-same mode (set_of a) (set_of b) first second h k = ap set_of (Below-same mode a b first second h k)
  Below-same mode (record_of a openness) (record_of b upper_openness) first second h k =
      let within = FieldsWithin-below mode a b b first.0 second.0 first.1 second.1 (λ name required ty has. has) h.2 k.2 in
      let fields = Fields-same a b first.0 second.0 (FieldsWithin-back a b first.0 within (FieldsBelow-names mode b a k.2)) within in
      let tags = OpennessBelow-same openness upper_openness h.0 k.0 in
      λ i. record_of (fields i) (tags i)
  Below-same mode (extension_of a) (extension_of b) first second h k = ap extension_of h
  Below-same mode a b first second h k = elim h [ ]

  -- of records below each other the one has the other's attributes
  FieldsWithin-below : (mode : ValidationMode) (a b rest : Fields) → IsSortedByName a → IsSortedByName b → AreWellFormed a
      → AreWellFormed rest → FieldsWithin rest b → FieldsBelow mode a rest → FieldsBelow mode b a → FieldsWithin rest a
  FieldsWithin-below mode a b end first second formed also within h k name required ty has = absurd has
  FieldsWithin-below mode a b (field other flag of rest) first second formed also within h k name required ty (inl same) =
      let own = h.0 in
      let above = HasBelow-of mode b a other own.0 own.1 k own.2 in
      let once = HasField-once b other above.0 flag above.1 of second above.2 (within other flag of (inl (refl, refl, refl))) in
      let flags : own.0 ≡ flag = FlagsBelow-same mode own.0 flag own.3 (rw once.0 at above.3) in
      let types : own.1 ≡ of =
      Below-same mode own.1 of (AreWellFormed-of a other own.0 own.1 formed own.2) also.0 own.4
      (rw once.1 at above.4) in
      rw (types ∙ same.2, flags ∙ same.1, same.0) at own.2
  FieldsWithin-below mode a b (field other flag of rest) first second formed also within h k name required ty (inr there) =
      FieldsWithin-below mode a b rest first second formed also.1 (λ n r t has. within n r t (inr has)) h.1 k name required ty there
