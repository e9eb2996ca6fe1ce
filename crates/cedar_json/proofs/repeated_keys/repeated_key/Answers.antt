use Rattle.std.proofs.Common.{ap, sym, ◌∙◌, Some, length, ◌<◌, arith}
use Rattle.std.proofs.lemmas.Map.Text.{btree_map_updates_str}
use Rattle.cedar_ast.proofs.Basics.{is_some-none}
use Rattle.cedar_json.proofs.FieldLemmas.{nth_member-is}
use Rattle.cedar_json.proofs.KeyLemmas.{all_seen, held, key_here, seen_before, seen_more}
use Rattle.cedar_json.proofs.repeated_keys.repeated_key.Goals as goal

pub returns-then-is_some : goal.returns-then-is_some
returns-then-is_some c =
    let xs = c.deref-member-items.result.now in
    let all = c.args.members.now.items in
    let x = c.member-item.result in
    let within : c.loop-index.index < length all = omega (arith, c.loop-index-test.true, ap length c.deref-member-items.ensures.value) in
    let here = nth_member-is xs all c.loop-index.index x c.deref-member-items.ensures.value c.loop-index-test.true c.member-item.is in
    let was = held c.in_ok-insert.field-0 (sym c.is_some.ensures ∙ c.if-is_some.true) in
    seen_before all c.loop-index.seen c.loop-index.index was.0 x within here c.loop-index.invariant
    (sym c.in_ok-insert.ensures.old ∙ was.1)

pub loop-index-preserved : goal.loop-index-preserved
loop-index-preserved c =
    let xs = c.deref-member-items.result.now in
    let all = c.args.members.now.items in
    let x = c.member-item.result in
    let within : c.loop-index.index < length all = omega (arith, c.loop-index-test.true, ap length c.deref-member-items.ensures.value) in
    let is = key_here xs all c.loop-index.index x c.deref-member-items.ensures.value c.loop-index-test.true c.member-item.is in
    let none = is_some-none c.in_ok-insert.field-0 (sym c.is_some.ensures ∙ c.if-is_some.false) in
    seen_more all c.loop-index.seen c.insert.new.self c.loop-index.index x within is c.loop-index.invariant
    (sym c.in_ok-insert.ensures.old ∙ none)
    (btree_map_updates_str x.0.now c.loop-index.seen c.insert.new.self (Some c.loop-index.index) c.in_ok-insert.ensures.updates)

pub returns : goal.returns
returns c =
    all_seen c.args.members.now.items c.loop-index.seen c.loop-index.index
    (omega (arith, c.loop-index-test.false, ap length c.deref-member-items.ensures.value)) c.loop-index.invariant
