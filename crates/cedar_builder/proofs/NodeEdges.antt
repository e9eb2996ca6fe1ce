-- Edges to what is declared from its parents, as they are listed one after another.
use Rattle.std.proofs.Common.{◌≡◌, ◌⊎◌, ◌<◌, ◌+◌, ℕ, List, [], ◌∷◌, ◌++◌, map, take, length, get_or, ap, sym, subst, ◌∙◌, inl, inr, append_assoc, Contains}
use Rattle.std.proofs.lemmas.Grind.{flat_map-append}
use Rattle.std.proofs.lemmas.List.{append-nil, map-append, take_more}
use Rattle.std.proofs.lemmas.List.Elements.{Contains-get_or}
use Rattle.cedar_ast.proofs.Basics.{Contains-image}
use Rattle.cedar_ast.proofs.TurnLemmas.{turn_more}
use Rattle.cedar_builder.specs.Words.{Fault, HoldsPairwise, IsParentFault, out_of_memory, parents_in}
use Rattle.cedar_schema_semantics.proofs.OccurrenceLemmas.{Contains-given}

-- one more item of a list
pub take_item : {A : Type 0} (xs : List A) (i : ℕ) (x : A) → i < length xs → x ≡ get_or xs i x → take (i + 1) xs ≡ take i xs ++ x ∷ []
take_item xs i x below is = take_more xs i x below ∙ ap (λ each. take i xs ++ each ∷ []) (sym is)

-- and of what stands for each
pub map_item : {A B : Type 0} (f : A → B) (xs : List A) (i : ℕ) (x : A) → i < length xs → x ≡ get_or xs i x
    → map f (take i xs) ++ f x ∷ [] ≡ map f (take (i + 1) xs)
map_item f xs i x below is = sym (ap (map f) (take_item xs i x below is) ∙ map-append f (take i xs) (x ∷ []))

-- the item at a place stands in the list
pub item_among : {A : Type 0} (xs : List A) (i : ℕ) (x : A) → i < length xs → x ≡ get_or xs i x → Contains xs x
item_among xs i x below is = rw is (Contains-get_or xs i x below)

-- one more edge is one more parent
pub pushed_parent : {Edge Name Reference : Type 0} (R : Edge → Name × Reference → Type 0) (initial : List (Name × Reference))
    (edges : List Edge) (name : Name) (done : List Reference) (reference : Reference) (edge : Edge)
    → R edge (name, reference) → HoldsPairwise R edges (initial ++ map (λ each. (name, each)) done)
    → HoldsPairwise R (edges ++ edge ∷ []) (initial ++ map (λ each. (name, each)) (done ++ reference ∷ []))
pushed_parent {Name = Name} {Reference = Reference} R initial edges name done reference edge one so_far =
    let pair : Reference → Name × Reference = λ each. (name, each) in
    let all : (initial ++ map pair done) ++ (name, reference) ∷ [] ≡ initial ++ map pair (done ++ reference ∷ []) =
    append_assoc initial (map pair done) ((name, reference) ∷ [])
    ∙ ap (λ parents. initial ++ parents) (sym (map-append pair done (reference ∷ []))) in
    subst (HoldsPairwise R (edges ++ edge ∷ [])) all (turn_more R edges (initial ++ map pair done) edge (name, reference) so_far one)

module _ {Name Reference : Type 0} (entries : List (Name × List Reference)) (name : Name) (parents : List Reference) where
  -- the parents of one more declaration come after those before
  pub parents_more : parents_in (entries ++ (name, parents) ∷ []) ≡ parents_in entries ++ map (λ each. (name, each)) parents
  parents_more =
      flat_map-append (λ (it : Name × List Reference). map (λ each. (it.0, each)) it.1) entries ((name, parents) ∷ [])
      ∙ ap (λ more. parents_in entries ++ more) (append-nil (map (λ each. (name, each)) parents))

  -- a refusal of the parents of one declaration is one of the parents of all
  pub parent_fault_wider : (Refuses : Reference → Fault → Type 0) (fault : Fault) → Contains entries (name, parents)
      → IsParentFault Refuses (map (λ each. (name, each)) parents) fault → IsParentFault Refuses (parents_in entries) fault
  parent_fault_wider Refuses fault among refused = elim refused [
    | inl wanting ↦ inl wanting
    | inr one ↦ inr (
      one.0,
      one.1,
      Contains-given (λ (it : Name × List Reference). map (λ each. (it.0, each)) it.1) entries (name, parents) (one.0, one.1) among one.2,
      one.3,
    )
  ]

-- a parent that is refused is one of some
pub parent_fault : {Name Reference : Type 0} (Refuses : Reference → Fault → Type 0) (name : Name) (parents : List Reference)
    (reference : Reference) (fault : Fault) → Contains parents reference → (fault ≡ out_of_memory) ⊎ Refuses reference fault
    → IsParentFault Refuses (map (λ each. (name, each)) parents) fault
parent_fault Refuses name parents reference fault among refused = elim refused [
  | inl wanting ↦ inl wanting
  | inr one ↦ inr (name, reference, Contains-image (λ each. (name, each)) parents reference among, one)
]
