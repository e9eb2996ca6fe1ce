-- Which actions the references of parents name.
use Rattle.std.proofs.Common.{◌≡◌, ◌⊎◌, OnOk, Result, Ok, Err, Bool, true, false, List, [], ◌∷◌, sym, ◌∙◌, subst, refl, inl, inr, Contains}
use Rattle.std.proofs.lemmas.Bool.{false≢true}
use Rattle.cedar_ast.proofs.Basics.{Contains-none}
use Rattle.cedar_ast.proofs.Lists.{Contains-cons_cases, Contains-preimage}
use Rattle.cedar_ast.specs.Words.{IsReserved, PlainName, PlainUid, Text, name_of, uid_of}
use Rattle.cedar_diagnosis.proofs.AddingLemmas.{adds_like}
use Rattle.cedar_diagnosis.specs.Adding.{Adds, SomeGives}
use Rattle.cedar_diagnosis.specs.Finding.{FindsUndefinedParent, IsUndefinedParent}
use Rattle.cedar_diagnosis.specs.ReferenceKeys.{key_reference, names_tried}
use Rattle.cedar_diagnosis.specs.declared.reference_key.ReferenceKey.{ReferenceKey}
use Rattle.cedar_name_resolution.specs.Words.{held_names}
use Rattle.cedar_name_resolution.specs.declared.defs.all_defs.AllDefs.{AllDefs}
use Rattle.cedar_schema_ast.specs.Words.{ActionBody, ActionReference, Declaration, action}
use Rattle.cedar_schema_semantics.specs.Words.{Fault, NamesNoAction, alias_name}

-- an action that is held has no reserved type
pub held_unreserved : (defs : AllDefs) (uid : PlainUid) → Contains (held_names defs).actions uid → ¬ IsReserved uid.ty
held_unreserved defs uid among reserved =
    let found = Contains-preimage uid_of defs.action_defs.keys uid among in
    let ReservedType : PlainUid → Type 0 = λ each. IsReserved each.ty in
    found.0.ty.0.unreserved (subst ReservedType (sym found.2) reserved)

-- what the parents of an action give is what is found in its declaration
pub parents_found : {E : Type 0} (result : Result Unit E) (actions : List PlainUid) (it : Declaration) (body : ActionBody)
    (parents : List ActionReference) (before after : List Fault) → it.body ≡ action body → body.parents ≡ parents
    → OnOk result (Adds (SomeGives (IsUndefinedParent actions) parents) before after)
    → OnOk result (Adds (FindsUndefinedParent actions it) before after)
parents_found (Ok x) actions it body parents before after is own adds =
    adds_like (SomeGives (IsUndefinedParent actions) parents) (FindsUndefinedParent actions it) before after
    (λ fault some.
    let Has : List ActionReference → Type 0 = λ all. Contains all some.0 in
    (body, is, some.0, subst Has (sym own) some.1, some.2))
    (λ fault found.
    let both : action found.0 ≡ action body = sym found.1 ∙ is in
    let same : found.0 ≡ body = cc in
    let Has : ActionBody → Type 0 = λ each. Contains each.parents found.2 in
    let Among : List ActionReference → Type 0 = λ all. Contains all found.2 in
    (found.2, subst Among own (subst Has same found.3), found.4))
    adds
parents_found (Err x) actions it body parents before after is own adds = tt

-- what is tried is the first name, or where it is tried the base name alone
tried_cases : (within : Bool) (first name : PlainName) → Contains (names_tried within first) name
    → (first ≡ name) ⊎ ((within ≡ true) × (alias_name first.base ≡ name))
tried_cases true first name among = elim (Contains-cons_cases first (alias_name first.base ∷ []) name among) [
  | inl same ↦ inl same
  | inr later ↦ elim (Contains-cons_cases (alias_name first.base) [] name later) [
    | inl same ↦ inr (refl, same)
    | inr none ↦ absurd (Contains-none name none)
  ]
]
tried_cases false first name among = elim (Contains-cons_cases first [] name among) [
  | inl same ↦ inl same
  | inr none ↦ absurd (Contains-none name none)
]

module _ (actions : List PlainUid) (id : Text) (key : ReferenceKey) where
  -- an action of the id whose type has the name is declared
  abbrev pub Has : PlainName → Type 0
  Has name = Contains actions (record { ty = name; eid = id })

  -- the reference to an action
  abbrev pub parent_of : ActionReference
  parent_of = record { id = id; ty = key_reference key }

  pub alone_none : key.is_within ≡ false → ¬ Has (name_of key.first) → NamesNoAction actions parent_of
  alone_none alone lacks name among has = elim (tried_cases key.is_within (name_of key.first) name among) [
    | inl same ↦ lacks (subst Has (sym same) has)
    | inr second ↦ false≢true (sym alone ∙ second.0)
  ]

  -- where no action has either name, none is named
  pub both_lack : ¬ Has (name_of key.first) → ¬ Has (alias_name (name_of key.first).base) → NamesNoAction actions parent_of
  both_lack lacks lacks_base name among has = elim (tried_cases key.is_within (name_of key.first) name among) [
    | inl same ↦ lacks (subst Has (sym same) has)
    | inr second ↦ lacks_base (subst Has (sym second.1) has)
  ]
