use Rattle.std.proofs.Common.{◌≤◌, ap, arith, length, map, sym, ◌∙◌}
use Rattle.std.proofs.lemmas.Bool.{false≢true}
use Rattle.std.proofs.lemmas.Grind.{common_steps}
use Rattle.cedar_ast.proofs.Names.{entity_type_eq-same}
use Rattle.cedar_compare.proofs.FindLemmas.{plain_keys}
use Rattle.cedar_compare.proofs.FreshLemmas.{IsNoLonger}
use Rattle.cedar_compare.proofs.LeftLemmas.{sure_more, sure_none}
use Rattle.cedar_compare.proofs.fresh.longest_action_id.Goals as goal
use Rattle.cedar_compare.specs.Words.{action_entries, action_of, schema_of, type_name, uid_of}

pub loop-uid-init : goal.loop-uid-init
loop-uid-init c =
    sure_none (IsNoLonger (type_name c.args.name.now) 0) (map (λ it. it.0) (schema_of c.args.schema.now).actions)
    (map uid_of c.into_iter-uid-iterator.result)
    (ap (map uid_of) (c.into_iter-uid-iterator.ensures.into_iter_gives ∙ c.actions-uid-items.ensures.uids)
    ∙ sym (plain_keys uid_of action_of (action_entries c.args.schema.now)))

pub loop-uid-preserved-then-eq : goal.loop-uid-preserved-then-eq
loop-uid-preserved-then-eq c =
    let name = type_name c.args.name.now in
    let old = c.loop-uid.longest in
    let next = c.max-longest.result in
    let more : old ≤ next = grind (arith, common_steps, c.max-longest.ensures) in
    let len = ap length (c.as_str.ensures ∙ c.eid.ensures) in
    let here : length (uid_of c.in-Some.uid.now).eid ≤ next = grind (arith, common_steps, c.max-longest.ensures, len) in
    sure_more (IsNoLonger name old) (IsNoLonger name next) (map (λ it. it.0) (schema_of c.args.schema.now).actions)
    (map uid_of c.loop-uid.uid-iterator) (map uid_of c.next.new.self) (uid_of c.in-Some.uid.now) (ap (map uid_of) c.in-Some.ensures.steps)
    (λ uid less named. omega (arith, less named, more)) (λ named. here) c.loop-uid.invariant

pub loop-uid-preserved : goal.loop-uid-preserved
loop-uid-preserved c =
    let name = type_name c.args.name.now in
    let P = IsNoLonger name c.loop-uid.longest in
    sure_more P P (map (λ it. it.0) (schema_of c.args.schema.now).actions)
    (map uid_of c.loop-uid.uid-iterator) (map uid_of c.next.new.self) (uid_of c.in-Some.uid.now) (ap (map uid_of) c.in-Some.ensures.steps)
    (λ uid less. less)
    (λ named. absurd (false≢true (sym c.if-eq.false ∙ (c.eq.ensures
    ∙ (entity_type_eq-same c.entity_type.result.now c.args.name.now).1 (c.entity_type.ensures.name ∙ named)))))
    c.loop-uid.invariant
