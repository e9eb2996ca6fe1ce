-- Entity types of two lists that are put together in order, without repeats.
use Rattle.std.proofs.Common.{Bor, Bool, true, false, cond, ◌+◌, ◌<◌, ◌↔◌, length, ap, ◌≡◌, ◌≢◌, inl, inr, List, [], ◌∷◌, ◌++◌, map, Contains, sym, ◌∙◌, refl, arith}
use Rattle.std.proofs.lemmas.List.{get_or-map, length-map, map-append}
use Rattle.std.proofs.lemmas.List.Elements.{Contains-append_left, Contains-append_right, Contains-append_cases}
use Rattle.std.proofs.lemmas.List.Filters.{dedup_is}
use Rattle.std.proofs.lemmas.List.Kept.{Any-dedup, Contains-from_dedup, IsStrictlySortedBy-dedup}
use Rattle.std.proofs.lemmas.List.Sorted.{Contains-permutation, IsPermutation-sym, IsPermutation-map}
use Rattle.std.proofs.lemmas.Simd.{map-map}
use Rattle.std.specs.List.{dedup, dedup_from}
use Rattle.std.specs.List.Retain.{IsFiltered, DiffersFromLast}
use Rattle.std.specs.List.Sorted.{IsPermutation, IsSorted, IsStrictlySortedBy}
use Rattle.std.specs.Ordering.{is_lt}
use Rattle.cedar_ast.proofs.Basics.{some_item}
use Rattle.cedar_ast.proofs.Lists.{Contains-cons}
use Rattle.cedar_ast.proofs.Names.{entity_type_eq-same, entity_type_ord-name_cmp}
use Rattle.cedar_ast.proofs.Ordered.{IsStrictlySortedBy-map}
use Rattle.cedar_ast.specs.contracts.entity_type.EntityTypeEq.TheImpl as entity_type_equal
use Rattle.cedar_ast.specs.contracts.entity_type.EntityTypeOrd.TheImpl as entity_type_ord
use Rattle.cedar_ast.specs.contracts.entity_type.EntityTypePartialEq.TheImpl as entity_type_eq
use Rattle.cedar_types.proofs.MemberLemmas.{Contains-named}
use Rattle.cedar_types.proofs.UnionLemmas.{Contains-names}
use Rattle.cedar_types.specs.Words.{EntityType, Included, IsUnionOf, PlainName, name_cmp, type_name}

-- the name of one of some entity types is among their names
Contains-name : (types : List EntityType) (ty : EntityType) (name : PlainName) → type_name ty ≡ name → Contains types ty
    → Contains (map type_name types) name
Contains-name types ty name same among = rw same at (Contains-names types among.0 ty among.1 (sym among.2))

-- where each of some entity types is among others, so are their names
Contains-names_among : (types others : List EntityType) → ((ty : EntityType) → Contains types ty → Contains others ty)
    → (name : PlainName) → Contains (map type_name types) name → Contains (map type_name others) name
Contains-names_among types others among name there =
    let (ty, inside, same) = Contains-named types name there in
    Contains-name others ty name same (among ty inside)

-- the entity types without repeats
abbrev pub distinct : List EntityType → List EntityType
distinct = dedup ((entity_type_eq.ghosts).eq)

-- dropping repeats drops no name
Contains-distinct : (types : List EntityType) (name : PlainName) → Contains (map type_name types) name
    → Contains (map type_name (distinct types)) name
Contains-distinct types name there =
    let (ty, inside, same) = Contains-named types name there in
    let (k, other, below, is, equal) = Any-dedup entity_type_equal.Laws.laws-law types ty inside in
    Contains-name (distinct types) other name (sym ((entity_type_eq-same ty other).0 equal) ∙ same) (k, below, is)

-- the names of entity types that are reordered and without repeats are theirs
pub same_names-distinct : (types sorted : List EntityType) → IsPermutation types sorted → (name : PlainName)
    → Contains (map type_name (distinct sorted)) name ↔ Contains (map type_name types) name
same_names-distinct types sorted permutation name = (
  λ there.
      let (ty, inside, same) = Contains-named (distinct sorted) name there in
      Contains-name types ty name same (Contains-permutation sorted types ty (IsPermutation-sym types sorted permutation)
      (Contains-from_dedup ((entity_type_eq.ghosts).eq) sorted ty inside)),
  λ there. Contains-distinct sorted name
      (Contains-names_among types sorted (λ ty inside. Contains-permutation types sorted ty permutation inside) name there),
)

-- entity types that are sorted and without repeats have names that are sorted without duplicates
pub sorted_names-distinct : (sorted : List EntityType) → IsSorted ((entity_type_ord.ghosts).cmp) sorted
    → IsStrictlySortedBy name_cmp (map type_name (distinct sorted))
sorted_names-distinct sorted order =
    IsStrictlySortedBy-map ((entity_type_ord.ghosts).cmp) name_cmp type_name entity_type_ord-name_cmp (distinct sorted)
    (IsStrictlySortedBy-dedup entity_type_ord.Laws.total-law entity_type_ord.Laws.matches_eq-law sorted order)

-- the entity types that are referred to
abbrev pub referred : List (Bor EntityType) → List EntityType
referred refs = map (λ ty. ty.now) refs

-- whether two references are to equal entity types
abbrev same_type : Bor EntityType → Bor EntityType → Bool
same_type a b = (entity_type_eq.ghosts).eq a.now b.now

referred-cond : (b : Bool) (xs ys : List (Bor EntityType)) → referred (cond b xs ys) ≡ cond b (referred xs) (referred ys)
referred-cond true xs ys = refl
referred-cond false xs ys = refl

referred-dedup_from : (x : Bor EntityType) (refs : List (Bor EntityType))
    → referred (dedup_from same_type x refs) ≡ dedup_from ((entity_type_eq.ghosts).eq) x.now (referred refs)
referred-dedup_from x [] = refl
referred-dedup_from x (y ∷ refs) =
    referred-cond (same_type y x) (dedup_from same_type x refs) (x ∷ dedup_from same_type y refs)
    ∙ (λ i. cond (same_type y x) (referred-dedup_from x refs i) (x.now ∷ referred-dedup_from y refs i))

-- references without repeats are to the entity types without repeats
referred-distinct : (refs : List (Bor EntityType)) → referred (dedup same_type refs) ≡ distinct (referred refs)
referred-distinct [] = refl
referred-distinct (x ∷ refs) = referred-dedup_from x refs

-- references in the order of their entity types are to entity types in order
IsSorted-referred : (refs : List (Bor EntityType)) → IsSorted (λ a b. (entity_type_ord.ghosts).cmp a.now b.now) refs
    → IsSorted ((entity_type_ord.ghosts).cmp) (referred refs)
IsSorted-referred refs sorted k d low high =
    let within : k + 1 < length refs = rw (sym (length-map refs (λ ty. ty.now))) high in
    let some : Bor EntityType = some_item refs (k + 1) within in
    let first = get_or-map (λ ty. ty.now) refs k some d (omega (arith, within)) in
    let second = get_or-map (λ ty. ty.now) refs (k + 1) some d within in
    (λ i. is_lt ((entity_type_ord.ghosts).cmp (second i) (first i))) ∙ sorted k some low within

-- the names of what is referred to
abbrev pub referred_names : List (Bor EntityType) → List PlainName
referred_names refs = map (λ ty. type_name ty.now) refs

-- the names of what is referred to without repeats
referred_names-distinct : (sorted all : List (Bor EntityType)) → IsFiltered (DiffersFromLast same_type) [] sorted all
    → referred_names all ≡ map type_name (distinct (referred sorted))
referred_names-distinct sorted all filtered =
    sym (map-map type_name (λ ty. ty.now) all)
    ∙ (ap (λ refs. map type_name (referred refs)) (dedup_is _ _ _ filtered) ∙ ap (map type_name) (referred-distinct sorted))

-- entity types that are referred to in order without repeats have names that are sorted without
-- duplicates
pub IsStrictlySortedBy-distinct : (sorted all : List (Bor EntityType))
    → IsSorted (λ a b. (entity_type_ord.ghosts).cmp a.now b.now) sorted
    → IsFiltered (DiffersFromLast same_type) [] sorted all → IsStrictlySortedBy name_cmp (referred_names all)
IsStrictlySortedBy-distinct sorted all order filtered =
    rw (referred_names-distinct sorted all filtered)
    (sorted_names-distinct (referred sorted) (IsSorted-referred sorted order))

-- and the names of all that was referred to
pub same_names-referred : (types sorted all : List (Bor EntityType)) → IsPermutation types sorted
    → IsFiltered (DiffersFromLast same_type) [] sorted all → (name : PlainName)
    → Contains (referred_names all) name ↔ Contains (referred_names types) name
same_names-referred types sorted all permutation filtered name =
    rw (referred_names-distinct sorted all filtered, sym (map-map type_name (λ (ty : Bor EntityType). ty.now) types)) (same_names-distinct (referred types) (referred sorted) (IsPermutation-map (λ ty. ty.now) types sorted permutation) name)

-- a list with all names of one that isn't empty isn't empty
pub nonempty_above : (names all : List PlainName) → Included names all → names ≢ [] → all ≢ []
nonempty_above [] all included some = absurd (some refl)
nonempty_above (name ∷ names) [] included some =
    let there = included name (Contains-cons name names name (inl refl)) in absurd (omega (arith, there.1))
nonempty_above (name ∷ names) (other ∷ all) included some = λ none. cc

-- where two lists are referred to together, the names of a copy without repeats are those of both
pub IsUnionOf-copied : (types others : List EntityType) (both all : List (Bor EntityType)) (copy : List EntityType)
    → referred both ≡ types ++ others
    → ((name : PlainName) → Contains (referred_names all) name ↔ Contains (referred_names both) name)
    → map type_name copy ≡ referred_names all → IsUnionOf (map type_name types) (map type_name others) (map type_name copy)
IsUnionOf-copied types others both all copy together same copied name =
    let first = map type_name types in
    let second = map type_name others in
    let are : referred_names both ≡ first ++ second =
    sym (map-map type_name (λ (ty : Bor EntityType). ty.now) both) ∙ (ap (map type_name) together ∙ map-append type_name types others) in
    let found = rw are at (same name) in
    rw copied (λ there. Contains-append_cases first second name (found.0 there), λ either. found.1 (elim either [ inl a ↦ Contains-append_left first second name a | inr b ↦ Contains-append_right first second name b ]))
