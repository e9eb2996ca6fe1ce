use Rattle.std.proofs.Common.{List, Option, OnOk, map, ap, subst}
use Rattle.cedar_ast.specs.Words.{PlainName}
use Rattle.cedar_diagnosis.proofs.NameLemmas.{action_declared}
use Rattle.cedar_diagnosis.proofs.ParentLemmas.{parents_found}
use Rattle.cedar_diagnosis.proofs.undefined_parents.UndefinedParentsFinds.find.Goals as goal
use Rattle.cedar_diagnosis.specs.Adding.{Adds, SomeGives}
use Rattle.cedar_diagnosis.specs.Finding.{IsUndefinedParent}
use Rattle.cedar_diagnosis.specs.Lent.{declaration_of, namespace_of}
use Rattle.cedar_diagnosis.specs.ReferenceKeys.{parent_told}
use Rattle.cedar_name_resolution.specs.Words.{held_names}
use Rattle.cedar_schema_ast.specs.Words.{action_body, parent_action, parent_actions, raw_reference}
use Rattle.cedar_schema_ast.specs.declared.json_schema.action_type.ActionEntityUID.{ActionEntityUID}
use Rattle.cedar_schema_ast.specs.declared.json_schema.raw_name.RawName.{RawName}

pub returns : goal.returns
returns c =
    let it = c.args.it.now in
    let actions = (held_names c.args.self.now.defs.now).actions in
    let namespace = namespace_of it.namespace.now in
    let before = map parent_told c.args.keys.now.keys in
    let after = map parent_told c.add_all.new.keys.keys in
    let Within : Option PlainName → Type 0 = λ within.
    OnOk c.add_all.result (Adds (SomeGives (IsUndefinedParent actions)
    (map (parent_action RawName (raw_reference within) within) c.deref.result.now)) before after) in
    let Of : List (ActionEntityUID RawName) → Type 0 = λ parents.
    OnOk c.add_all.result (Adds (SomeGives (IsUndefinedParent actions)
    (map (parent_action RawName (raw_reference namespace) namespace) parents)) before after) in
    parents_found c.add_all.result actions (declaration_of it) (action_body RawName (raw_reference namespace) namespace c.in-Action.declared.now)
    (map (parent_action RawName (raw_reference namespace) namespace) c.in-Some.parents.items) before after
    (action_declared it c.in-Action.id c.in-Action.declared c.in-Action.is)
    (ap (parent_actions RawName (raw_reference namespace) namespace) c.in-Some.is)
    (subst Of c.deref.ensures.value (subst Within c.namespace.ensures c.add_all.ensures))
