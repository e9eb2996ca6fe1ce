use Rattle.std.proofs.Common.{IfOk, string_bytes, subst, sym, ◌∙◌}
use Rattle.cedar_ast.specs.Words.{PlainName}
use Rattle.cedar_diagnosis.proofs.ActionCycleLemmas.{named_second}
use Rattle.cedar_diagnosis.proofs.named_action.named_action.Goals as goal
use Rattle.cedar_diagnosis.specs.ReferenceKeys.{IsActionAt}
use Rattle.cedar_name_resolution.specs.Words.{held_names}

pub returns : goal.returns
returns c =
    let actions = (held_names c.args.defs.now).actions in
    let parent = c.args.parent.now in
    let Second : PlainName → Type 0 = λ name.
    IfOk c.declared_action-2.result (λ found. IsActionAt actions (record { ty = name; eid = string_bytes parent.id }) found) in
    named_second actions parent c.in_ok-first.first c.declared_action-2.result (sym c.is_some.ensures ∙ c.if-is_some.false) c.if-not-reference.false
    c.in_ok-first.ensures (subst Second c.in_ok-base.ensures c.declared_action-2.ensures)
