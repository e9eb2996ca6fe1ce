-- Lists of references, by what they show.
use Rattle.std.proofs.Common.{◌≡◌, ◌<◌, ◌+◌, ◌++◌, ℕ, Bor, List, [], ◌∷◌, length, get_or, is_lt, map, ap, sym, ◌∙◌, append_assoc, arith}
use Rattle.std.proofs.lemmas.List.{append-nil, get_or-map, length-map, map-append}
use Rattle.std.proofs.lemmas.Simd.{map-map}
use Rattle.std.specs.List.Sorted.{IsSorted}
use Rattle.std.specs.Map.Iter.{deref}
use Rattle.std.specs.declared.cmp.Ordering.{Ordering}
use Rattle.cedar_ast.proofs.Basics.{some_item}

-- what a reference shows
abbrev pub borrowed : {A B : Type 0} → (A → B) → Bor A → B
borrowed shows it = shows it.now

-- references to some values show what these show
pub borrowed_shown : {A B : Type 0} (shows : A → B) (references : List (Bor A)) (values : List A) → map deref references ≡ values
    → map (borrowed shows) references ≡ map shows values
borrowed_shown shows references values same = sym (map-map shows deref references) ∙ ap (map shows) same

-- where references to some values follow others, what they show follows
pub borrowed_more : {A B : Type 0} (shows : A → B) (old added new : List (Bor A)) (values : List A) → new ≡ old ++ added
    → map deref added ≡ values → map (borrowed shows) new ≡ map (borrowed shows) old ++ map shows values
borrowed_more shows old added new values is same =
    cc (is, map-append (borrowed shows) old added, borrowed_shown shows added values same)

module _ {A B C : Type 0} (shows : A → B) (reads : C → B) (all : List B) (items : List (Bor A)) (left : List C)
    (so_far : map (borrowed shows) items ++ map reads left ≡ all) where
  -- where a reference that shows what the first of what is left reads as is put behind references,
  -- these show the same with what is then left
  pub borrowed_push : (new : List (Bor A)) (one : Bor A) (first : C) (rest : List C) → new ≡ items ++ one ∷ [] → left ≡ first ∷ rest
      → shows one.now ≡ reads first → map (borrowed shows) new ++ map reads rest ≡ all
  borrowed_push new one first rest is begins alike =
      ap (λ each. map (borrowed shows) each ++ map reads rest) is
      ∙ (ap (λ shown. shown ++ map reads rest) (map-append (borrowed shows) items (one ∷ []))
      ∙ (append_assoc (map (borrowed shows) items) (shows one.now ∷ []) (map reads rest)
      ∙ (ap (λ it. map (borrowed shows) items ++ it ∷ map reads rest) alike
      ∙ (ap (λ others. map (borrowed shows) items ++ map reads others) (sym begins) ∙ so_far))))

  -- where nothing is left, they show all
  pub borrowed_all : left ≡ [] → map (borrowed shows) items ≡ all
  borrowed_all none =
      sym (ap (λ others. map (borrowed shows) items ++ map reads others) none ∙ append-nil (map (borrowed shows) items)) ∙ so_far

module _ {A B : Type 0} (cmp : A → A → Ordering) (plain : B → B → Ordering) (shows : A → B)
    (same : (a b : A) → cmp a b ≡ plain (shows a) (shows b)) where
  -- references in the order of what they refer to show what is in order
  pub IsSorted-borrowed : (references : List (Bor A)) → IsSorted (λ a b. cmp a.now b.now) references
      → IsSorted plain (map (borrowed shows) references)
  IsSorted-borrowed references sorted k d low high =
      let within : k + 1 < length references = rw (sym (length-map references (borrowed shows))) high in
      let some : Bor A = some_item references (k + 1) within in
      let first = get_or-map (borrowed shows) references k some d (omega (arith, within)) in
      let second = get_or-map (borrowed shows) references (k + 1) some d within in
      (λ i. is_lt (plain (second i) (first i)))
      ∙ (sym (ap is_lt (same (get_or references (k + 1) some).now (get_or references k some).now)) ∙ sorted k some low within)
