-- What is found in the positions of a bag and in the parents of its actions are its faults of a kind.
use Rattle.std.proofs.Common.{◌≡◌, ◌≢◌, ◌↔◌, List, [], ◌∷◌, sym, subst, refl, Contains, Option, Some}
use Rattle.cedar_ast.proofs.Basics.{Contains-single}
use Rattle.cedar_ast.specs.Words.{IsActionType, IsReserved, PlainName, Text}
use Rattle.cedar_ast.specs.declared.extension.Extensions.{Extensions}
use Rattle.cedar_diagnosis.proofs.KindLemmas.{MayTell, defined_like, tells_kind}
use Rattle.cedar_diagnosis.proofs.TogetherLemmas.{TellsAlso}
use Rattle.cedar_diagnosis.specs.Adding.{SomeGives, TellsJust}
use Rattle.cedar_diagnosis.specs.Diagnosis.{IsTold}
use Rattle.cedar_diagnosis.specs.Finding.{FindsUndeclaredType, FindsUndefinedParent}
use Rattle.cedar_diagnosis.specs.Kinds as kind
use Rattle.cedar_diagnosis.specs.Kinds.{kind_of}
use Rattle.cedar_name_resolution.specs.Words.{HoldsJust}
use Rattle.cedar_schema_ast.specs.Words.{ActionReference, Reference}
use Rattle.cedar_schema_semantics.proofs.DeclarationLemmas.{action_declaration, declares_action}
use Rattle.cedar_schema_semantics.proofs.ResolutionLemmas.{IsFirst-like}
use Rattle.cedar_schema_semantics.specs.Words.{Bag, Fault, HasUnknownParent, IsAtEntityTypePosition, IsDefined, IsFault, Names, NamesNoAction, ResolvesTo, action_not_defined, action_uids, declared_uid, defined_names, undeclared_entity_types}

module _ (bag : Bag) (extensions : Extensions) (names : Names) (same : HoldsJust names (defined_names bag extensions)) where
  -- references resolve to the same names
  pub resolves_like : (reference : Reference) (name : PlainName)
      → ResolvesTo names reference name ↔ ResolvesTo (defined_names bag extensions) reference name
  resolves_like reference name =
      let One : PlainName → Type 0 = IsDefined names reference.kind in
      let Other : PlainName → Type 0 = IsDefined (defined_names bag extensions) reference.kind in
      let like = defined_like names (defined_names bag extensions) same reference.kind in (
        IsFirst-like One Other (λ each. (like each).0) (λ each. (like each).1) reference.possibilities name,
        IsFirst-like Other One (λ each. (like each).1) (λ each. (like each).0) reference.possibilities name,
      )

  -- the type of some actions at the position of an entity type is a fault, and is found
  undeclared_sound : (fault : Fault) → SomeGives (FindsUndeclaredType names) bag fault
      → MayTell bag extensions kind.undeclared_entity_types fault
  undeclared_sound fault some =
      let found = some.2 in
      let reference = found.0 in
      let named = found.2 in
      let name = named.0 in
      let Stands : PlainName → Type 0 = λ each. IsActionType each × (other : Reference) × IsAtEntityTypePosition bag other
      × ResolvesTo (defined_names bag extensions) other each in
      let stands : Stands name = (named.2, reference, (some.0, some.1, found.1), (resolves_like reference name).0 named.1) in
      let some_one : (name ∷ []) ≢ [] = λ (is : (name ∷ []) ≡ []). cc in
      subst (MayTell bag extensions kind.undeclared_entity_types) named.4
      (refl, (some_one, λ each among. subst Stands (Contains-single name each among) stands), (name, refl))

  module _ (unreserved : (reference : Reference) (name : PlainName) → IsAtEntityTypePosition bag reference
      → ResolvesTo (defined_names bag extensions) reference name → ¬ IsReserved name) where
    undeclared_complete : (more : List Fault) → ((fault : Fault) → SomeGives (FindsUndeclaredType names) bag fault → Contains more fault)
        → (fault : Fault) → kind_of fault ≡ kind.undeclared_entity_types → IsFault bag extensions fault → IsTold more fault
    undeclared_complete more has (undeclared_entity_types each) is fault = λ name among.
        let stands = fault.1 name among in
        let position = stands.2 in
        has (undeclared_entity_types (name ∷ [])) (
          position.0,
          position.1,
          (
            stands.1,
            position.2,
            (name, (resolves_like stands.1 name).1 stands.3, stands.0, unreserved stands.1 name position stands.3, refl),
          ),
        )
    undeclared_complete more has _ is fault = absurd cc

    pub tells_undeclared_types : (before after : List Fault) → TellsJust (SomeGives (FindsUndeclaredType names) bag) before after
        → TellsAlso bag extensions kind.undeclared_entity_types before after
    tells_undeclared_types before after =
        tells_kind bag extensions kind.undeclared_entity_types (SomeGives (FindsUndeclaredType names) bag) before after undeclared_sound undeclared_complete

  -- a parent that names no action among these names none among those that are declared
  no_action_like : (parent : ActionReference) → NamesNoAction names.actions parent ↔ NamesNoAction (action_uids bag) parent
  no_action_like parent = (
    λ none ty among there. none ty among ((same.actions (record { ty = ty; eid = parent.id })).1 there),
    λ none ty among there. none ty among ((same.actions (record { ty = ty; eid = parent.id })).0 there),
  )

  -- a parent of an action that names none is a fault, and is found
  parent_sound : (fault : Fault) → SomeGives (FindsUndefinedParent names.actions) bag fault → MayTell bag extensions kind.action_not_defined fault
  parent_sound fault some =
      let it = some.0 in
      let found = some.2 in
      let parent = found.2 in
      let carried : Text × Option Reference = (parent.id, Some parent.ty) in
      let unknown : HasUnknownParent bag carried =
      (declared_uid it, parent, (found.0, declares_action bag it found.0 some.1 found.1, found.3), refl, (no_action_like parent).0 found.4.0) in
      let some_one : (carried ∷ []) ≢ [] = λ (is : (carried ∷ []) ≡ []). cc in
      subst (MayTell bag extensions kind.action_not_defined) found.4.1
      (refl, (some_one, λ each among. subst (HasUnknownParent bag) (Contains-single carried each among) unknown), (carried, refl))

  parent_complete : (more : List Fault) → ((fault : Fault) → SomeGives (FindsUndefinedParent names.actions) bag fault → Contains more fault)
      → (fault : Fault) → kind_of fault ≡ kind.action_not_defined → IsFault bag extensions fault → IsTold more fault
  parent_complete more has (action_not_defined actions) is fault = λ carried among.
      let unknown = fault.1 carried among in
      let parent = unknown.1 in
      let declared = unknown.2 in
      let it = action_declaration bag unknown.0 declared.0 declared.1 in
      let Told : Text × Option Reference → Type 0 = λ each. Contains more (action_not_defined (each ∷ [])) in
      subst Told (sym unknown.3)
      (has (action_not_defined ((parent.id, Some parent.ty) ∷ []))
      (it.0, it.1, (declared.0, it.2, parent, declared.2, ((no_action_like parent).1 unknown.4, refl))))
  parent_complete more has _ is fault = absurd cc

  pub tells_undefined_parents : (before after : List Fault) → TellsJust (SomeGives (FindsUndefinedParent names.actions) bag) before after
      → TellsAlso bag extensions kind.action_not_defined before after
  tells_undefined_parents before after =
      tells_kind bag extensions kind.action_not_defined (SomeGives (FindsUndefinedParent names.actions) bag) before after parent_sound parent_complete
