use Rattle.std.proofs.Common.{◌≡◌, [], ◌∷◌, map, refl, sym, subst, ap, ◌∙◌}
use Rattle.std.proofs.lemmas.Bool.{false≢true}
use Rattle.cedar_ast.specs.Words.{IsActionType, type_name}
use Rattle.cedar_diagnosis.proofs.AddingLemmas.{adds_found, adds_nothing}
use Rattle.cedar_diagnosis.proofs.NameLemmas.{named_one, named_only}
use Rattle.cedar_diagnosis.proofs.action_entity_types.ActionEntityTypesFinds.find.Goals as goal
use Rattle.cedar_diagnosis.specs.Finding.{FindsActionType}
use Rattle.cedar_diagnosis.specs.Lent.{declaration_of}
use Rattle.cedar_diagnosis.specs.Names.{entity_names_in}
use Rattle.cedar_schema_semantics.specs.Words.{action_entity_type}

-- one of a type of actions is found
pub returns-then-is_action : goal.returns-then-is_action
returns-then-is_action c =
    let it = declaration_of c.args.it.now in
    let name = type_name c.in-Some.ty in
    let one : name ∷ [] ≡ entity_names_in it = rw c.in-Some.is at c.in_ok-ty.ensures in
    adds_found c.add_key.result (FindsActionType it) (map (λ key. action_entity_type (type_name key)) c.args.keys.now.keys)
    (map (λ key. action_entity_type (type_name key)) c.add_key.new.keys.keys) (action_entity_type name)
    (name, named_one name (entity_names_in it) one, c.is_action.ensures.0 c.if-is_action.true, refl)
    (λ fault found. ap action_entity_type (named_only name (entity_names_in it) one found.0 found.1) ∙ found.3) c.add_key.ensures

-- and another isn't
pub returns : goal.returns
returns c =
    let it = declaration_of c.args.it.now in
    let name = type_name c.in-Some.ty in
    let one : name ∷ [] ≡ entity_names_in it = rw c.in-Some.is at c.in_ok-ty.ensures in
    adds_nothing (FindsActionType it) (map (λ key. action_entity_type (type_name key)) c.args.keys.now.keys)
    (λ fault found. false≢true (sym c.if-is_action.false
    ∙ c.is_action.ensures.1 (subst IsActionType (sym (named_only name (entity_names_in it) one found.0 found.1)) found.2)))
