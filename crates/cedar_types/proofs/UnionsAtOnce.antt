-- Unions that are joined at once: the names of all their entity types, in one list without repeats.
use Rattle.std.proofs.Common.{Bor, ◌≡◌, ◌≢◌, ◌<◌, ◌+◌, ◌-◌, ◌↔◌, ℕ, zero, suc, refl, ap, subst, sym, ◌∙◌, List, [], ◌∷◌, ◌++◌, length, map, take, get_or, Contains, Ok, inl, inr, arith}
use Rattle.std.proofs.lemmas.List.{append-nil, get_or-take, length-map, length-take-le, map-append, take_more}
use Rattle.std.proofs.lemmas.List.Concat.{flat_map-append}
use Rattle.std.proofs.lemmas.List.Elements.{Contains-append_cases, Contains-append_left, Contains-append_right}
use Rattle.std.proofs.lemmas.Simd.{map-map}
use Rattle.std.specs.List.{flat_map}
use Rattle.std.specs.List.Sorted.{IsStrictlySortedBy}
use Rattle.cedar_ast.proofs.PlainNames.{name_cmp-total}
use Rattle.cedar_name_map.proofs.RisingLemmas.{Included-back}
use Rattle.cedar_types.proofs.MemberParts.{ty_of-entity}
use Rattle.cedar_types.proofs.MergedLemmas.{nonempty_above, referred, referred_names}
use Rattle.cedar_types.proofs.UnionFolds.{unions_reduced}
use Rattle.cedar_types.specs.Words.{EntityLUB, EntityType, Included, IsReduceAnswer, Permissive, PlainName, Ty, «Type», lub_formed, lub_names, lub_ty, lub_types, name_cmp, never, ty_of, type_name}
use Rattle.cedar_types.specs.declared.entity_kind.EntityKind.TheVariants as kind
use Rattle.cedar_types.specs.declared.types.Type.TheVariants as type

-- what stands in one of some lists stands in all of them together
Contains-flat_map : {X K : Type 0} (list_of : X → List K) (xs : List X) (i : ℕ) (x : X) (k : K) → i < length xs
    → x ≡ get_or xs i x → Contains (list_of x) k → Contains (flat_map list_of xs) k
Contains-flat_map list_of [] i x k below is among = absurd (omega (arith, below))
Contains-flat_map list_of (y ∷ ys) zero x k below is among =
    Contains-append_left (list_of y) (flat_map list_of ys) k (subst (λ z. Contains (list_of z) k) is among)
Contains-flat_map list_of (y ∷ ys) (suc i) x k below is among =
    Contains-append_right (list_of y) (flat_map list_of ys) k (Contains-flat_map list_of ys i x k (omega (arith, below)) is among)

-- the names of the entity types of some unions, one union after another
abbrev pub names_of_all : List (Bor EntityLUB) → List PlainName
names_of_all unions = flat_map (λ lub. lub_names lub.now) unions

-- some unions have a name
some_name : (unions : List (Bor EntityLUB)) → unions ≢ [] → names_of_all unions ≢ []
some_name [] some = absurd (some refl)
some_name (lub ∷ unions) some =
    nonempty_above (lub_names lub.now) (names_of_all (lub ∷ unions))
    (λ name among. Contains-append_left (lub_names lub.now) (names_of_all unions) name among) (lub_formed lub.now).0

-- the names of what is referred to are those of the unions before a place
abbrev pub NamedBefore : List (Bor EntityLUB) → ℕ → List (Bor EntityType) → Type 0
NamedBefore unions place all = (name : PlainName)
    → Contains (referred_names all) name ↔ Contains (names_of_all (take place unions)) name

module _ (unions : List (Bor EntityLUB)) (place : ℕ) (lub : Bor EntityLUB) (within : place < length unions)
    (is : lub ≡ get_or unions place lub) where
  -- past one more union its names come behind those before
  names_onwards : names_of_all (take (place + 1) unions) ≡ names_of_all (take place unions) ++ lub_names lub.now
  names_onwards =
      ap names_of_all (take_more unions place lub within ∙ ap (λ one. take place unions ++ one ∷ []) (sym is))
      ∙ (flat_map-append (λ (lub : Bor EntityLUB). lub_names lub.now) (take place unions) (lub ∷ [])
      ∙ ap (λ names. names_of_all (take place unions) ++ names) (append-nil (lub_names lub.now)))

  -- so it is where its entity types are referred to as well
  pub NamedBefore-more : (before after more : List (Bor EntityType)) → NamedBefore unions place before → after ≡ before ++ more
      → referred more ≡ lub_types lub.now → NamedBefore unions (place + 1) after
  NamedBefore-more before after more so_far pushed are name =
      let own = lub_names lub.now in
      let others = names_of_all (take place unions) in
      let referred_to : referred_names after ≡ referred_names before ++ own =
      ap referred_names pushed ∙ (map-append (λ (ty : Bor EntityType). type_name ty.now) before more
      ∙ ap (λ names. referred_names before ++ names) (sym (map-map type_name (λ (ty : Bor EntityType). ty.now) more) ∙ ap (map type_name) are)) in
      rw (referred_to, names_onwards) (
        λ there. elim (Contains-append_cases (referred_names before) own name there) [
          | inl a ↦ Contains-append_left others own name ((so_far name).0 a)
          | inr b ↦ Contains-append_right others own name b
        ],
        λ there. elim (Contains-append_cases others own name there) [
          | inl a ↦ Contains-append_left (referred_names before) own name ((so_far name).1 a)
          | inr b ↦ Contains-append_right (referred_names before) own name b
        ],
      )

  -- and where the union before it has the same names
  pub NamedBefore-same : (other : Bor EntityLUB) (all : List (Bor EntityType)) → place ≢ 0 → other ≡ get_or unions (place - 1) other
      → lub_names other.now ≡ lub_names lub.now → NamedBefore unions place all → NamedBefore unions (place + 1) all
  NamedBefore-same other all later before same so_far name =
      let own = lub_names lub.now in
      let others = names_of_all (take place unions) in
      let low : place - 1 < place = omega (arith, later) in
      let there_too : other ≡ get_or (take place unions) (place - 1) other = before ∙ sym (get_or-take place unions (place - 1) other low) in
      let low_in : place - 1 < length (take place unions) = rw (length-take-le place unions (omega (arith, within))) low in
      rw names_onwards (
        λ there. Contains-append_left others own name ((so_far name).0 there),
        λ there. (so_far name).1 (elim (Contains-append_cases others own name there) [
          | inl a ↦ a
          | inr b ↦ Contains-flat_map (λ (lub : Bor EntityLUB). lub_names lub.now) (take place unions) (place - 1) other name low_in there_too
              (rw (← same) at b)
        ]),
      )

module _ (unions : List (Bor EntityLUB)) (all distinct : List (Bor EntityType))
    (named : (name : PlainName) → Contains (referred_names all) name ↔ Contains (names_of_all unions) name)
    (same : (name : PlainName) → Contains (referred_names distinct) name ↔ Contains (referred_names all) name) where
  -- the names that are left without repeats are those of the unions
  same_names : (name : PlainName) → Contains (referred_names distinct) name ↔ Contains (names_of_all unions) name
  same_names name =
      (λ there. (named name).0 ((same name).0 there), λ there. (same name).1 ((named name).1 there))

  -- so are those of a copy
  pub same_names-copied : (copy : List EntityType) → map type_name copy ≡ referred_names distinct → (name : PlainName)
      → Contains (map type_name copy) name ↔ Contains (names_of_all unions) name
  same_names-copied copy copied name = rw copied (same_names name)

  -- which isn't empty, where there are unions
  pub some-copied : (copy : List EntityType) → map type_name copy ≡ referred_names distinct → unions ≢ [] → copy ≢ []
  some-copied copy copied some none =
      nonempty_above (names_of_all unions) (map type_name copy) (λ name. (same_names-copied copy copied name).1)
      (some_name unions some) (ap (map type_name) none)

  -- and those of a union that has as many, so that it has them all
  pub same_names-kept : IsStrictlySortedBy name_cmp (referred_names distinct) → (i : ℕ) (lub : Bor EntityLUB) → i < length unions
      → lub ≡ get_or unions i lub → length (lub_types lub.now) ≡ length distinct → (copy : List PlainName)
      → copy ≡ lub_names lub.now → (name : PlainName) → Contains copy name ↔ Contains (names_of_all unions) name
  same_names-kept sorted i lub within is as_many copy copied name =
      let own = lub_names lub.now in
      let among = λ (name : PlainName) (there : Contains own name).
      Contains-flat_map (λ (lub : Bor EntityLUB). lub_names lub.now) unions i lub name within is there in
      let long : length own ≡ length (referred_names distinct) =
      length-map (lub_types lub.now) type_name ∙ (as_many ∙ sym (length-map distinct (λ (ty : Bor EntityType). type_name ty.now))) in
      let back : Included (referred_names distinct) own =
      Included-back name_cmp name_cmp-total own (referred_names distinct) (lub_formed lub.now).1 sorted
      (λ name there. (same_names name).1 (among name there)) (omega (arith, long)) in
      rw copied (λ there. among name there, λ there. back name ((same_names name).1 there))

-- the types of the entities of some unions
abbrev pub tys_of_all : List (Bor EntityLUB) → List Ty
tys_of_all unions = map (λ lub. lub_ty lub.now) unions

-- types that are each of a union, of which there are some, are reduced to the type of the union of
-- all their names
pub unions_joined : (types : List «Type») (unions : List (Bor EntityLUB)) (all : EntityLUB) → unions ≢ []
    → map ty_of types ≡ tys_of_all unions → ((name : PlainName) → Contains (lub_names all) name ↔ Contains (names_of_all unions) name)
    → IsReduceAnswer Permissive never (map ty_of types) (Ok (ty_of (type.Entity (kind.Entity all))))
unions_joined types unions all some are same =
    rw (are, ty_of-entity (kind.Entity all)) (unions_reduced (λ (lub : Bor EntityLUB). lub_names lub.now) unions (lub_names all) some (λ lub. lub_formed lub.now) (lub_formed all) same)

-- where there are types, there are unions
pub some_unions : (types : List «Type») (unions : List (Bor EntityLUB)) → 1 < length types → map ty_of types ≡ tys_of_all unions
    → unions ≢ []
some_unions types unions some are none =
    let no_types : length (map ty_of types) ≡ 0 = ap length are ∙ ap (λ unions. length (tys_of_all unions)) none in
    omega (arith, length-map types ty_of, no_types, some)
