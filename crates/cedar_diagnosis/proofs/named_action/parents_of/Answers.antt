use Rattle.std.proofs.Common.{◌≡◌, List, Option, IfOk, ap, map, subst}
use Rattle.cedar_ast.specs.Words.{PlainName}
use Rattle.cedar_diagnosis.proofs.ActionCycleLemmas.{parents_listed}
use Rattle.cedar_diagnosis.proofs.NameLemmas.{action_declared}
use Rattle.cedar_diagnosis.proofs.named_action.parents_of.Goals as goal
use Rattle.cedar_diagnosis.specs.Lent.{declaration_of, namespace_of}
use Rattle.cedar_diagnosis.specs.ReferenceKeys.{key_parent}
use Rattle.cedar_schema_ast.specs.Words.{action_body, parent_action, parent_actions, raw_reference}
use Rattle.cedar_schema_ast.specs.declared.json_schema.action_type.ActionEntityUID.{ActionEntityUID}
use Rattle.cedar_schema_ast.specs.declared.json_schema.raw_name.RawName.{RawName}

pub returns : goal.returns
returns c =
    let it = c.args.it.now in
    let namespace = namespace_of it.namespace.now in
    let Within : Option PlainName → Type 0 = λ within.
    IfOk c.parent_keys.result (λ keys. map key_parent keys.items ≡ map (parent_action RawName (raw_reference within) within) c.deref.result.now) in
    let Of : List (ActionEntityUID RawName) → Type 0 = λ parents.
    IfOk c.parent_keys.result (λ keys. map key_parent keys.items ≡ map (parent_action RawName (raw_reference namespace) namespace) parents) in
    parents_listed c.parent_keys.result (λ keys. map key_parent keys.items) (declaration_of it)
    (action_body RawName (raw_reference namespace) namespace c.in-Action.declared.now)
    (map (parent_action RawName (raw_reference namespace) namespace) c.in-Some.parents.items)
    (action_declared it c.in-Action.id c.in-Action.declared c.in-Action.is)
    (ap (parent_actions RawName (raw_reference namespace) namespace) c.in-Some.is)
    (subst Of c.deref.ensures.value (subst Within c.namespace.ensures c.parent_keys.ensures))
