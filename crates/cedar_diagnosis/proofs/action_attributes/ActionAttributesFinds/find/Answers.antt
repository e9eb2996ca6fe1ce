use Rattle.std.proofs.Common.{◌≡◌, [], ◌∷◌, map, ap, sym, ◌∙◌, string_bytes}
use Rattle.cedar_diagnosis.proofs.AddingLemmas.{adds_found}
use Rattle.cedar_diagnosis.proofs.NameLemmas.{action_declared, id_of_action}
use Rattle.cedar_diagnosis.proofs.action_attributes.ActionAttributesFinds.find.Goals as goal
use Rattle.cedar_diagnosis.specs.Finding.{FindsAttributes}
use Rattle.cedar_diagnosis.specs.Lent.{declaration_of}
use Rattle.cedar_schema_semantics.specs.Words.{action_attributes}

pub returns-then-is_some : goal.returns-then-is_some
returns-then-is_some c =
    let it = c.args.it.now in
    let id = string_bytes c.in_ok-clone.field-0 in
    let same : id ≡ (declaration_of it).id = c.in_ok-clone.ensures.cases ∙ sym (id_of_action it c.in-Action.id c.in-Action.declared c.in-Action.is) in
    adds_found c.add_key.result (FindsAttributes (declaration_of it)) (map (λ key. action_attributes (string_bytes key ∷ [])) c.args.keys.now.keys)
    (map (λ key. action_attributes (string_bytes key ∷ [])) c.add_key.new.keys.keys) (action_attributes (id ∷ []))
    (_, action_declared it c.in-Action.id c.in-Action.declared c.in-Action.is, sym c.is_some.ensures ∙ c.if-is_some.true, ap (λ each. action_attributes (each ∷ [])) (sym same))
    (λ fault found. ap (λ each. action_attributes (each ∷ [])) same ∙ found.3) c.add_key.ensures
