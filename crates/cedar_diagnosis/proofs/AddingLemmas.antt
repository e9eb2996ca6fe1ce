-- Lists that gather what facts hold of.
use Rattle.std.proofs.Common.{OnOk, Result, Ok, Err, ◌≡◌, ◌⊎◌, ◌↔◌, ◌<◌, ◌≤◌, ◌+◌, ℕ, List, [], ◌∷◌, ◌++◌, map, ap, sym, ◌∙◌, subst, refl, inl, inr, Contains, arith, length, take, get_or}
use Rattle.std.proofs.lemmas.List.{map_more, take_all}
use Rattle.std.proofs.lemmas.List.Elements.{Contains-append_left, Contains-append_right, Contains-append_cases}
use Rattle.cedar_ast.proofs.Basics.{Contains-single}
use Rattle.cedar_ast.proofs.Lists.{Contains-cons}
use Rattle.cedar_diagnosis.specs.Adding.{Adds, SomeGives}
use Rattle.cedar_name_resolution.specs.HeldNames.{HasAlso}

-- the members of a list that gathered what a fact holds of
pub members_of : {P : Type 0} (Holds : P → Type 0) (items : List P) → Adds Holds [] items → (item : P) → Contains items item ↔ Holds item
members_of Holds items adds item = (
  λ among. elim ((adds item).0 among) [ inl none ↦ absurd (omega (arith, none.1)) | inr holds ↦ holds ],
  λ holds. (adds item).1 (inr holds),
)

module _ {P : Type 0} where
  -- nothing is added where the fact holds of nothing
  pub adds_nothing : (Holds : P → Type 0) (items : List P) → ((item : P) → ¬ Holds item) → Adds Holds items items
  adds_nothing Holds items none item = (λ among. inl among, elim [ inl among ↦ among | inr holds ↦ absurd (none item holds) ])

  -- one more is added
  pub adds_also : (before after : List P) (one : P) → HasAlso after before (one ∷ []) → Adds (λ item. one ≡ item) before after
  adds_also before after one also item = (
    λ among. elim ((also item).0 among) [ inl old ↦ inl old | inr new ↦ inr (Contains-single one item new) ],
    elim [ inl old ↦ (also item).1 (inl old) | inr same ↦ (also item).1 (inr (Contains-cons one [] item (inl same))) ],
  )

  -- facts that hold of the same add the same
  pub adds_like : (One Other : P → Type 0) (before after : List P) → ((item : P) → One item → Other item) → ((item : P) → Other item → One item)
      → Adds One before after → Adds Other before after
  adds_like One Other before after to from adds item = (
    λ among. elim ((adds item).0 among) [ inl old ↦ inl old | inr one ↦ inr (to item one) ],
    elim [ inl old ↦ (adds item).1 (inl old) | inr other ↦ (adds item).1 (inr (from item other)) ],
  )

  -- what one fact adds, and then another, both add
  pub adds_both : (One Other : P → Type 0) (before middle after : List P) → Adds One before middle → Adds Other middle after
      → Adds (λ item. One item ⊎ Other item) before after
  adds_both One Other before middle after first second item = (
    λ among. elim ((second item).0 among) [
      | inl there ↦ elim ((first item).0 there) [ inl old ↦ inl old | inr one ↦ inr (inl one) ]
      | inr other ↦ inr (inr other)
    ],
    elim [
      | inl old ↦ (second item).1 (inl ((first item).1 (inl old)))
      | inr (inl one) ↦ (second item).1 (inl ((first item).1 (inr one)))
      | inr (inr other) ↦ (second item).1 (inr other)
    ],
  )

  module _ {X : Type 0} (Gives : X → P → Type 0) where
    -- no items give anything
    pub none_give : (items : List P) → Adds (SomeGives Gives []) items items
    none_give items = adds_nothing (SomeGives Gives []) items (λ item given. omega (arith, given.1.1))

    -- what some give and what one more gives they give together
    pub gives_more : (done : List X) (one : X) (before middle after : List P) → Adds (SomeGives Gives done) before middle
        → Adds (Gives one) middle after → Adds (SomeGives Gives (done ++ one ∷ [])) before after
    gives_more done one before middle after first second =
        adds_like (λ item. SomeGives Gives done item ⊎ Gives one item) (SomeGives Gives (done ++ one ∷ [])) before after
        (λ item. elim [
          | inl some ↦ (some.0, Contains-append_left done (one ∷ []) some.0 some.1, some.2)
          | inr here ↦ (one, Contains-append_right done (one ∷ []) one (Contains-cons one [] one (inl refl)), here)
        ])
        (λ item some. elim (Contains-append_cases done (one ∷ []) some.0 some.1) [
          | inl there ↦ inl (some.0, there, some.2)
          | inr last ↦
              let HoldsOf : X → Type 0 = λ each. Gives each item in
              inr (subst HoldsOf (sym (Contains-single one some.0 last)) some.2)
        ])
        (adds_both (SomeGives Gives done) (Gives one) before middle after first second)

    module _ {L : Type 0} (see : L → X) (items : List L) (before : List P) where
      -- what one more of some items gives, each seen in some way
      pub gives_next : (i : ℕ) (one : L) (middle after : List P) → i < length items → one ≡ get_or items i one
          → Adds (SomeGives Gives (map see (take i items))) before middle → Adds (Gives (see one)) middle after
          → Adds (SomeGives Gives (map see (take (i + 1) items))) before after
      gives_next i one middle after lt is first second =
          let more : map see (take (i + 1) items) ≡ map see (take i items) ++ see one ∷ [] =
          map_more see items i one lt ∙ ap (λ each. map see (take i items) ++ see each ∷ []) (sym is) in
          rw more (gives_more (map see (take i items)) (see one) before middle after first second)

      -- where none is left, all have given
      pub gives_all : (i : ℕ) (after : List P) → length items ≤ i → Adds (SomeGives Gives (map see (take i items))) before after
          → Adds (SomeGives Gives (map see items)) before after
      gives_all i after le so_far = rw (ap (map see) (take_all i items le)) at so_far

  -- what holds of one alone adds that
  pub adds_found : {E : Type 0} (result : Result Unit E) (Holds : P → Type 0) (before after : List P) (one : P) → Holds one
      → ((item : P) → Holds item → one ≡ item) → OnOk result (Adds (λ item. one ≡ item) before after) → OnOk result (Adds Holds before after)
  adds_found (Ok x) Holds before after one holds only adds =
      adds_like (λ item. one ≡ item) Holds before after (λ item same. subst Holds same holds) only adds
  adds_found (Err x) Holds before after one holds only adds = tt

  -- what the members of such a list give, all of which the fact holds give
  pub members_give : {X E : Type 0} (result : Result Unit E) (Gives : X → P → Type 0) (Member : X → Type 0) (items : List X) (before after : List P)
      → Adds Member [] items → OnOk result (Adds (SomeGives Gives items) before after)
      → OnOk result (Adds (λ item. (x : X) × Member x × Gives x item) before after)
  members_give {X = X} (Ok x) Gives Member items before after members adds =
      adds_like (SomeGives Gives items) (λ item. (x : X) × Member x × Gives x item) before after
      (λ item some. (some.0, in_fact some.0 some.1, some.2))
      (λ item some. (some.0, (members some.0).1 (inr some.1), some.2)) adds
    where
      in_fact : (x : X) → Contains items x → Member x
      in_fact x among = elim ((members x).0 among) [ inl none ↦ absurd (omega (arith, none.1)) | inr holds ↦ holds ]
  members_give (Err x) Gives Member items before after members adds = tt

  -- what stands after others is added
  pub adds_listed : (Holds : P → Type 0) (before after more : List P) → after ≡ before ++ more → ((item : P) → Contains more item ↔ Holds item)
      → Adds Holds before after
  adds_listed Holds before after more is same item = rw is (
    λ among. elim (Contains-append_cases before more item among) [ inl old ↦ inl old | inr new ↦ inr ((same item).0 new) ],
    elim [
      | inl old ↦ Contains-append_left before more item old
      | inr holds ↦ Contains-append_right before more item ((same item).1 holds)
    ],
  )

  -- what the members of two such lists give in turn
  pub both_give : {X E : Type 0} (result : Result Unit E) (Gives : X → P → Type 0) (One Other : X → Type 0) (ones others : List X)
      (before middle after : List P) → Adds One [] ones → Adds Other [] others → Adds (SomeGives Gives ones) before middle
      → OnOk result (Adds (SomeGives Gives others) middle after)
      → OnOk result (Adds (λ item. (x : X) × (One x ⊎ Other x) × Gives x item) before after)
  both_give {X = X} (Ok x) Gives One Other ones others before middle after are_ones are_others first second =
      adds_like (λ item. SomeGives Gives ones item ⊎ SomeGives Gives others item) (λ item. (each : X) × (One each ⊎ Other each) × Gives each item)
      before after
      (λ item. elim [
        | inl some ↦ (some.0, inl ((members_of One ones are_ones some.0).0 some.1), some.2)
        | inr some ↦ (some.0, inr ((members_of Other others are_others some.0).0 some.1), some.2)
      ])
      (λ item some. elim some.1 [
        | inl one ↦ inl (some.0, (members_of One ones are_ones some.0).1 one, some.2)
        | inr other ↦ inr (some.0, (members_of Other others are_others some.0).1 other, some.2)
      ])
      (adds_both (SomeGives Gives ones) (SomeGives Gives others) before middle after first second)
  both_give (Err x) Gives One Other ones others before middle after are_ones are_others first second = tt
