-- Unions of entity types that are folded by joins in permissive mode.
use Rattle.std.proofs.Common.{◌≡◌, ◌≢◌, Bool, true, false, cond, ◌||◌, refl, ap, subst, List, [], ◌∷◌, map, Contains, Ok, inl, inr, ◌↔◌, arith}
use Rattle.std.proofs.lemmas.Bool.Decides.{Decides-or}
use Rattle.std.proofs.lemmas.List.{map-id}
use Rattle.std.proofs.lemmas.List.Elements.{Contains-append_left, Contains-append_right, Contains-append_cases}
use Rattle.std.proofs.lemmas.List.Kept.{IsStrictlySortedBy-filter}
use Rattle.std.specs.Bool.{Decides}
use Rattle.std.specs.List.{filter, flat_map, list_any}
use Rattle.std.specs.Ordering.{is_eq}
use Rattle.cedar_ast.proofs.Basics.{is_eq-Equal}
use Rattle.cedar_ast.proofs.Lists.{Contains-cons, Contains-cons_cases, list_any-Contains}
use Rattle.cedar_ast.proofs.PlainNames.{name_cmp-total, name_cmp-Equal}
use Rattle.cedar_type_rules.proofs.AntisymmetryLaws.{Included-same}
use Rattle.cedar_type_rules.proofs.JoinLemmas.{upper_is_join}
use Rattle.cedar_types.proofs.KindJoins.{unions_join}
use Rattle.cedar_types.proofs.MergedLemmas.{nonempty_above}
use Rattle.cedar_types.specs.Words.{Included, IsReduceAnswer, IsUnionOf, IsWellFormed, Permissive, PlainName, name_cmp, never, union_of}

-- whether a name is one of some
abbrev is_one_of : List PlainName → PlainName → Bool
is_one_of names name = list_any (λ other. is_eq (name_cmp other name)) names

-- a search decides whether a name is one of some
is_one_of-Decides : (names : List PlainName) (name : PlainName) → Decides (is_one_of names name) (Contains names name)
is_one_of-Decides names name =
    rw map-id at (list_any-Contains (λ (other : PlainName). other) name (λ other. is_eq (name_cmp other name)) (λ other. (
      λ e. (name_cmp-Equal other name).0 (is_eq-Equal (name_cmp other name) e),
      λ same. ap is_eq ((name_cmp-Equal other name).1 same),
    )) names)

module _ {K : Type 0} (test : K → Bool) where
  -- one more item that passes or doesn't, where the rest is filtered
  kept_step : (y : K) (ys : List K) (x : K) (passes : Bool) → test y ≡ passes
      → Contains (filter test ys) x ↔ (Contains ys x × (test x ≡ true))
      → Contains (cond passes (y ∷ filter test ys) (filter test ys)) x ↔ (Contains (y ∷ ys) x × (test x ≡ true))
  kept_step y ys x true is rest = (
    λ there. elim (Contains-cons_cases y (filter test ys) x there) [
      | inl same ↦ (Contains-cons y ys x (inl same), subst (λ z. test z ≡ true) same is)
      | inr more ↦ (Contains-cons y ys x (inr (rest.0 more).0), (rest.0 more).1)
    ],
    λ both. Contains-cons y (filter test ys) x (elim (Contains-cons_cases y ys x both.0) [ inl same ↦ inl same | inr more ↦ inr (rest.1 (more, both.1)) ]),
  )
  kept_step y ys x false is rest = (
    λ there. (Contains-cons y ys x (inr (rest.0 there).0), (rest.0 there).1),
    λ both. elim (Contains-cons_cases y ys x both.0) [
      | inl same ↦ absurd (let passes = subst (λ z. test z ≡ false) same is in let wrong = both.1 in cc)
      | inr more ↦ rest.1 (more, both.1)
    ],
  )

  -- a filter keeps just what passes
  Contains-filter : (xs : List K) (x : K) → Contains (filter test xs) x ↔ (Contains xs x × (test x ≡ true))
  Contains-filter [] x = (λ there. absurd (omega (arith, there.1)), λ both. absurd (omega (arith, both.0.1)))
  Contains-filter (y ∷ ys) x = kept_step y ys x (test y) refl (Contains-filter ys x)

-- the names of the last list that stand in one of the first two
abbrev named_in : List PlainName → List PlainName → List PlainName → List PlainName
named_in names others all = filter (λ name. is_one_of names name || is_one_of others name) all

-- where all names of both stand in the last list, those are the union of both
IsUnionOf-named_in : (names others all : List PlainName) → Included names all → Included others all
    → IsUnionOf names others (named_in names others all)
IsUnionOf-named_in names others all first second name =
    let kept = Contains-filter (λ name. is_one_of names name || is_one_of others name) all name in
    let decides = Decides-or (is_one_of names name) (is_one_of others name) (is_one_of-Decides names name) (is_one_of-Decides others name) in (
      λ there. decides.0 (kept.0 there).1,
      λ either. kept.1 (elim either [ inl a ↦ first name a | inr b ↦ second name b ], decides.1 either),
    )

-- where all names of both stand in a well formed union, the union of both is well formed
named_in-formed : (names others all : List PlainName) → Included names all → Included others all → IsWellFormed (union_of names)
    → IsWellFormed (union_of all) → IsWellFormed (union_of (named_in names others all))
named_in-formed names others all first second formed whole =
    let test = λ (name : PlainName). is_one_of names name || is_one_of others name in (
      nonempty_above names (named_in names others all) (λ name among. (IsUnionOf-named_in names others all first second name).1 (inl among)) formed.0,
      IsStrictlySortedBy-filter name_cmp test all whole.1,
      λ name among. whole.2 name ((Contains-filter test all name).0 among).0,
    )

module _ {X : Type 0} (names_of : X → List PlainName) where
  -- unions are folded from one on to that of all their names
  unions_folded : (start : List PlainName) (xs : List X) (all : List PlainName) → IsWellFormed (union_of start)
      → IsWellFormed (union_of all) → IsUnionOf start (flat_map names_of xs) all
      → IsReduceAnswer Permissive (union_of start) (map (λ x. union_of (names_of x)) xs) (Ok (union_of all))
  unions_folded start [] all formed whole union =
      let forth : Included all start = λ name among. elim ((union name).0 among) [ inl a ↦ a | inr none ↦ absurd (omega (arith, none.1)) ] in
      let back : Included start all = λ name among. (union name).1 (inl among) in
      ap (λ names. Ok (union_of names)) (Included-same name_cmp name_cmp-total all start whole.1 formed.1 forth back)
  unions_folded start (x ∷ xs) all formed whole union =
      let names = names_of x in
      let rest = flat_map names_of xs in
      let next = named_in start names all in
      let first : Included start all = λ name among. (union name).1 (inl among) in
      let second : Included names all = λ name among. (union name).1 (inr (Contains-append_left names rest name among)) in
      let both = IsUnionOf-named_in start names all first second in
      let next_formed = named_in-formed start names all first second formed whole in
      let onwards : IsUnionOf next rest all = λ name. (
        λ among. elim ((union name).0 among) [
          | inl a ↦ inl ((both name).1 (inl a))
          | inr more ↦ elim (Contains-append_cases names rest name more) [ inl b ↦ inl ((both name).1 (inr b)) | inr c ↦ inr c ]
        ],
        λ either. elim either [
          | inl a ↦ elim ((both name).0 a) [ inl b ↦ first name b | inr b ↦ second name b ]
          | inr c ↦ (union name).1 (inr (Contains-append_right names rest name c))
        ],
      ) in
      inl (union_of next, unions_join start names next both, next_formed, unions_folded next xs all next_formed whole onwards)

  -- unions, of which there are some, are reduced to that of all their names
  pub unions_reduced : (xs : List X) (all : List PlainName) → xs ≢ [] → ((x : X) → IsWellFormed (union_of (names_of x)))
      → IsWellFormed (union_of all) → ((name : PlainName) → Contains all name ↔ Contains (flat_map names_of xs) name)
      → IsReduceAnswer Permissive never (map (λ x. union_of (names_of x)) xs) (Ok (union_of all))
  unions_reduced [] all some formed whole same = absurd (some refl)
  unions_reduced (x ∷ xs) all some formed whole same =
      let names = names_of x in
      let rest = flat_map names_of xs in
      inl (
        union_of names,
        (upper_is_join Permissive never (union_of names) tt).0,
        formed x,
        unions_folded names xs all (formed x) whole (λ name. (
          λ among. Contains-append_cases names rest name ((same name).0 among),
          λ either. (same name).1 (elim either [ inl a ↦ Contains-append_left names rest name a | inr b ↦ Contains-append_right names rest name b ]),
        )),
      )
