-- What stands first among possibilities, and what references to actions name.
use Rattle.std.proofs.Common.{List, [], ◌∷◌, sym, subst, Contains, inl, inr}
use Rattle.cedar_schema_ast.specs.Reference.{ActionReference}
use Rattle.cedar_schema_semantics.specs.Words.{IsFirst, NamesAction, PlainName, PlainUid}

-- a fact holds of the first item of which it does
pub IsFirst-holds : {A : Type 0} (P : A → Type 0) (xs : List A) (x : A) → IsFirst P xs x → P x
IsFirst-holds P [] x first = absurd first
IsFirst-holds P (y ∷ rest) x first = elim first [ inl here ↦ rw here.0 at here.1 | inr later ↦ IsFirst-holds P rest x later.1 ]

-- an action that a reference names is one of those that it may name
pub NamesAction-among : (actions : List PlainUid) (reference : ActionReference) (uid : PlainUid) → NamesAction actions reference uid
    → Contains actions uid
NamesAction-among actions reference uid names =
    let Stands : PlainName → Type 0 = λ ty. Contains actions (record { ty = ty; eid = reference.id }) in
    subst (Contains actions) (λ i. record { ty = uid.ty; eid = sym names.1 i }) (IsFirst-holds Stands reference.ty.possibilities uid.ty names.0)
