-- Names within a namespace, and what names that are written in full would name.
use Rattle.std.proofs.Common.{◌≡◌, ◌≢◌, ◌↔◌, ◌++◌, ◌≤◌, ◌<◌, ◌+◌, ◌-◌, ◌∙◌, Bool, true, false, not, IsTrue, IsSome, IfSome, map, take, length, get_or, arith, List, [], ◌∷◌, Option, None, Some, ap, sym, refl, inl, inr, Contains}
use Rattle.std.proofs.Math.Seq.{take-length}
use Rattle.std.proofs.lemmas.Bool.{false≢true}
use Rattle.std.proofs.lemmas.List.{map_more}
use Rattle.std.proofs.lemmas.List.Elements.{Contains-append_cases, Contains-append_left, Contains-append_right}
use Rattle.cedar_ast.proofs.Basics.{Contains-single}
use Rattle.cedar_ast.proofs.Lists.{Contains-cons}
use Rattle.cedar_schema_writer.specs.Words.{Id, IsPathOf, IsReserved, Name, Names, NamesNoOther, NamesNoOtherAction, PlainName, PlainUid, Text, id_text, name_within, path_within, plain_name, plain_namespace, reserved_word}

-- a list with an item at its end isn't empty
pub ends_in-nil : {A : Type 0} (front : List A) (last : A) → front ++ last ∷ [] ≢ []
ends_in-nil [] last same = cc
ends_in-nil (first ∷ front) last same = cc

-- a name within a namespace isn't reserved, where neither is
pub within-unreserved : (namespace : PlainName) (base : Text) → ¬ IsReserved namespace → base ≢ reserved_word
    → ¬ IsReserved (name_within (Some namespace) base)
within-unreserved namespace base unreserved allowed = elim [
  | inl here ↦ allowed here
  | inr among ↦ elim (Contains-append_cases namespace.path (namespace.base ∷ []) reserved_word among) [
    | inl outer ↦ unreserved (inr outer)
    | inr last ↦ unreserved (inl (Contains-single namespace.base reserved_word last))
  ]
]

-- a namespace isn't reserved, where a name in it isn't
pub path-unreserved : (base last : Text) (front : List Text) → ¬ IsReserved (record { base = base; path = front ++ last ∷ [] })
    → ¬ IsReserved (record { base = last; path = front })
path-unreserved base last front unreserved = elim [
  | inl is ↦ unreserved (inr (Contains-append_right' is))
  | inr outer ↦ unreserved (inr (Contains-append_left front (last ∷ []) reserved_word outer))
]
  where
    Contains-append_right' : last ≡ reserved_word → Contains (front ++ last ∷ []) reserved_word
    Contains-append_right' is = Contains-append_right front (last ∷ []) reserved_word (Contains-cons last [] reserved_word (inl is))

module _ (names : Names) (namespace : PlainName) where
  -- a name without a path, written in the namespace, names no other exactly if none is there under
  -- its base name
  pub no_other-within : (base : Text) (path : List Text) → path ≡ []
      → NamesNoOther names (Some namespace) (record { base = base; path = path })
      ↔ ¬ Contains names.entities (name_within (Some namespace) base)
  no_other-within base [] is = (
    λ no_other there. ends_in-nil namespace.path namespace.base
        (ap (λ (name : PlainName). name.path) (no_other (name_within (Some namespace) base) (inl (refl, inr (tt, there))))),
    λ none other. elim [
      | inl first ↦ absurd (elim first.1 [ inl common ↦ common.0 | inr it ↦ none it.1 ])
      | inr later ↦ elim later.1 [ inl second ↦ sym second.0 | inr third ↦ absurd third.1 ]
    ],
  )
  no_other-within base (part ∷ path) is = cc

  -- the same of an action
  pub no_other_action-within : (base : Text) (path : List Text) (eid : Text) → path ≡ []
      → NamesNoOtherAction names (Some namespace) (record { ty = record { base = base; path = path }; eid = eid })
      ↔ ¬ Contains names.actions (record { ty = name_within (Some namespace) base; eid = eid })
  no_other_action-within base [] eid is = (
    λ no_other there. ends_in-nil namespace.path namespace.base
        (ap (λ (uid : PlainUid). uid.ty.path)
        (no_other (record { ty = name_within (Some namespace) base; eid = eid }) (inl (refl, there), refl))),
    λ none other names_it. elim names_it.0 [
      | inl first ↦ absurd (none first.1)
      | inr later ↦ elim later.1 [
        | inl second ↦ (λ i. let same : PlainName = sym second.0 i in let text : Text = names_it.1 i in record { ty = same; eid = text })
        | inr third ↦ absurd third.1
      ]
    ],
  )
  no_other_action-within base (part ∷ path) eid is = cc

-- where a test decides a fact, its denial decides what holds exactly if the fact doesn't
pub answered-not : (P Q : Type 0) (test : Bool) → IsTrue test ↔ P → Q ↔ ¬ P → IsTrue (not test) ↔ Q
answered-not P Q true decides exactly = (λ is. absurd (false≢true is), λ holds. absurd (exactly.0 holds (decides.0 refl)))
answered-not P Q false decides exactly = (λ is. exactly.1 (λ holds. false≢true (decides.1 holds)), λ holds. refl)

-- lists with one item at the end are the same exactly with the same fronts and last items
pub ends-same : {A : Type 0} (xs ys : List A) (x y : A) → xs ++ x ∷ [] ≡ ys ++ y ∷ [] → (xs ≡ ys) × (x ≡ y)
ends-same [] [] x y same = let last : x ≡ y = cc in (refl, last)
ends-same [] (first ∷ ys) x y same =
    let rest : [] ≡ ys ++ y ∷ [] = cc in absurd (ends_in-nil ys y (sym rest))
ends-same (first ∷ xs) [] x y same =
    let rest : xs ++ x ∷ [] ≡ [] = cc in absurd (ends_in-nil xs x rest)
ends-same (first ∷ xs) (other ∷ ys) x y same =
    let front : first ≡ other = cc in
    let rest : xs ++ x ∷ [] ≡ ys ++ y ∷ [] = cc in
    let later = ends-same xs ys x y rest in ((λ i. front i ∷ later.0 i), later.1)

-- namespaces whose names have one path are the same
pub one_namespace : (namespace other : Option PlainName) → path_within namespace ≡ path_within other → namespace ≡ other
one_namespace None None same = refl
one_namespace None (Some other) same = absurd (ends_in-nil other.path other.base (sym same))
one_namespace (Some namespace) None same = absurd (ends_in-nil namespace.path namespace.base same)
one_namespace (Some namespace) (Some other) same =
    let both = ends-same namespace.path other.path namespace.base other.base same in
    λ i. let base : Text = both.1 i in let path : List Text = both.0 i in Some (record { base = base; path = path })

-- what holds in the namespace of a path holds in each namespace of that path
pub in_each_namespace : (P : Option PlainName → Type 0) (namespace : Option PlainName) (path : List Text) → IsPathOf namespace path
    → P namespace → (other : Option PlainName) → IsPathOf other path → P other
in_each_namespace P namespace path is holds other also = rw (one_namespace namespace other (is ∙ sym also)) at holds

-- identifiers are all but the last, and then the last
pub front_and_last : (ids : List Id) (base : Id) → 1 ≤ length ids → base ≡ get_or ids (length ids - 1) base
    → map id_text ids ≡ map id_text (take (length ids - 1) ids) ++ id_text base ∷ []
front_and_last ids base some is =
    let count : length ids - 1 + 1 ≡ length ids = omega arith in
    let within : length ids - 1 < length ids = omega arith in
    cc (count, take-length ids, map_more id_text ids (length ids - 1) base within, is)

-- what is found has the path of the name that it stands for
pub found_path : (found : Option Name) (name : PlainName) → IsSome found → IfSome found (λ kept. plain_name kept ≡ name)
    → IsPathOf (plain_namespace found) (name.path ++ name.base ∷ [])
found_path None name some is = absurd cc
found_path (Some kept) name some is = ap (λ (it : PlainName). it.path ++ it.base ∷ []) is
