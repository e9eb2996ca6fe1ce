use Rattle.std.proofs.Common.{◌≡◌, [], ◌∷◌, map, sym, subst, ap, ◌∙◌}
use Rattle.std.proofs.lemmas.Bool.{false≢true}
use Rattle.cedar_ast.specs.Words.{IsActionType, IsReserved, PlainName, name_of, type_name}
use Rattle.cedar_diagnosis.proofs.AddingLemmas.{adds_found, adds_nothing}
use Rattle.cedar_diagnosis.proofs.undeclared_types.add_action_type.Goals as goal
use Rattle.cedar_schema_semantics.specs.Words.{Fault, undeclared_entity_types}

-- what an action's type has to be for it to be told
abbrev Tells : PlainName → Fault → Type 0
Tells name fault = IsActionType name × (¬ IsReserved name) × (undeclared_entity_types (name ∷ []) ≡ fault)

-- a reserved name isn't added
pub returns : goal.returns
returns c =
    adds_nothing (Tells (name_of c.args.name)) (map (λ key. undeclared_entity_types (type_name key ∷ [])) c.args.keys.now.keys) (λ fault tells. tells.1 c.in-Err.ensures.refused.1)

-- nor is one of another type
pub returns-then-not-is_action : goal.returns-then-not-is_action
returns-then-not-is_action c =
    adds_nothing (Tells (name_of c.args.name)) (map (λ key. undeclared_entity_types (type_name key ∷ [])) c.args.keys.now.keys)
    (λ fault tells. false≢true (sym c.if-not-is_action.true ∙ c.is_action.ensures.1 (subst IsActionType (sym c.in-Ok.ensures.name) tells.0)))

-- any other is
pub returns-in-Ok : goal.returns-in-Ok
returns-in-Ok c =
    let name = name_of c.args.name in
    adds_found c.add_key.result (Tells name) (map (λ key. undeclared_entity_types (type_name key ∷ [])) c.args.keys.now.keys) (map (λ key. undeclared_entity_types (type_name key ∷ [])) c.add_key.new.keys.keys)
    (undeclared_entity_types (type_name c.in-Ok.ty ∷ [])) (
      subst IsActionType c.in-Ok.ensures.name (c.is_action.ensures.0 c.if-not-is_action.false),
      c.in-Ok.ensures.unreserved,
      ap (λ each. undeclared_entity_types (each ∷ [])) (sym c.in-Ok.ensures.name),
    )
    (λ fault tells. ap (λ each. undeclared_entity_types (each ∷ [])) c.in-Ok.ensures.name ∙ tells.2) c.add_key.ensures
