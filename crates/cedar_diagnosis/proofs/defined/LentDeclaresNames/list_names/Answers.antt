use Rattle.std.proofs.Common.{List, [], ◌∷◌, map, subst, ◌∙◌}
use Rattle.cedar_ast.specs.Words.{PlainName, name_of, uid_of}
use Rattle.cedar_diagnosis.proofs.DefinedLemmas.{alone, also_like, lists_also}
use Rattle.cedar_diagnosis.proofs.defined.LentDeclaresNames.list_names.Goals as goal
use Rattle.cedar_diagnosis.specs.Lent.{declaration_of}
use Rattle.cedar_name_resolution.specs.Words.{HasAlso, listed_names, names_given}
use Rattle.cedar_schema_semantics.specs.Words.{action_in, common_in, declared_name, declared_uid, entity_in}

pub returns : goal.returns
returns c =
    let it = declaration_of c.args.self.now in
    let before = c.args.lists.now in
    let Common : List PlainName → Type 0 = λ each. HasAlso (map name_of c.push_name.new.names.items) (map name_of before.common.items) each in
    let Entities : List PlainName → Type 0 = λ each. HasAlso (map name_of c.push_name-2.new.names.items) (map name_of before.entities.items) each in
    lists_also c.push_uid.result _ (listed_names before) (names_given (it ∷ []))
    (subst Common (c.in_ok-common_name.ensures ∙ alone (common_in (declared_name it) it.body)) c.in_ok-push_name.ensures)
    (subst Entities (c.into_name.ensures ∙ (c.in_ok-entity_name.ensures ∙ alone (entity_in (declared_name it) it.body))) c.in_ok-push_name-2.ensures)
    (also_like c.push_uid.result (map uid_of c.push_uid.new.uids.items) (map uid_of before.actions.items) _ _
    (c.in_ok-action_uid.ensures ∙ alone (action_in (declared_uid it) it.body)) c.push_uid.ensures)
