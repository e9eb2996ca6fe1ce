use Rattle.std.proofs.Common.{◌≡◌, sym, ap, length, ◌∙◌}
use Rattle.std.proofs.lemmas.Result.{IfOk-weaker}
use Rattle.cedar_types.proofs.UnionsAtOnce.{same_names-copied, same_names-kept, some-copied}
use Rattle.cedar_types.proofs.entity_lub.EntityLUB.of_all.Goals as goal
use Rattle.cedar_types.specs.Words.{lub_names, lub_types}

pub of_sorted-requires-clause-nonempty : goal.of_sorted-requires-clause-nonempty
of_sorted-requires-clause-nonempty c =
    some-copied c.args.unions.now.items c.in_ok-all_types.field-0.items c.in_ok-types.types.items c.in_ok-all_types.ensures
    c.in_ok-types.ensures.names c.in_ok-share_all.field-0.items c.in_ok-share_all.ensures c.requires

pub returns : goal.returns
returns c =
    IfOk-weaker c.of_sorted.result _ _ (λ lub same name. rw same (same_names-copied c.args.unions.now.items c.in_ok-all_types.field-0.items c.in_ok-types.types.items c.in_ok-all_types.ensures c.in_ok-types.ensures.names c.in_ok-share_all.field-0.items
    c.in_ok-share_all.ensures name)) c.of_sorted.ensures

-- a union that has as many entity types is the answer
pub returns-then-as_slice-len : goal.returns-then-as_slice-len
returns-then-as_slice-len c =
    let as_many : length (lub_types c.lub-item.result.now) ≡ length c.in_ok-types.types.items =
    ap length (sym c.as_slice.ensures) ∙ (c.if-as_slice-len.true ∙ (c.len.ensures ∙ c.in_ok-types.types.ok.0)) in
    let within = rw c.deref-lub-items.ensures.value at c.loop-lub-test.true in
    let is = rw c.deref-lub-items.ensures.value at c.lub-item.is in
    IfOk-weaker c.clone.result _ _ (λ copy copied. same_names-kept c.args.unions.now.items c.in_ok-all_types.field-0.items c.in_ok-types.types.items
    c.in_ok-all_types.ensures c.in_ok-types.ensures.names c.in_ok-types.ensures.sorted c.loop-lub.lub-index c.lub-item.result within is as_many
    (lub_names copy) copied) c.clone.ensures
