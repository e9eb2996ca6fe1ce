use Rattle.std.proofs.Common.{◌∙◌, arith}
use Rattle.cedar_json.proofs.MapBuilderLemmas.{all_put_first, ascending_rest}
use Rattle.cedar_json.proofs.map_builder.put_all_but.Goals as goal

-- where more pairs wait than are kept, one leaves
pub returns-in_default-clause-entries : goal.returns-in_default-clause-entries
returns-in_default-clause-entries g c =
    absurd (omega (arith, c.loop-waiting-test.true, c.len.ensures, c.in_default.ensures.cases.0))

pub returns-in_default-clause-kept : goal.returns-in_default-clause-kept
returns-in_default-clause-kept g c =
    absurd (omega (arith, c.loop-waiting-test.true, c.len.ensures, c.in_default.ensures.cases.0))

pub returns-in_default-clause-ascending : goal.returns-in_default-clause-ascending
returns-in_default-clause-ascending g c =
    absurd (omega (arith, c.loop-waiting-test.true, c.len.ensures, c.in_default.ensures.cases.0))

-- the first of the pairs that wait is put
pub loop-waiting-preserved : goal.loop-waiting-preserved
loop-waiting-preserved g c =
    let cmp = g.K.Ord.cmp in
    let waits = c.pop_front.new.self.items in
    record {
      entries = all_put_first cmp c.loop-waiting.map.entries c.put.new.map.entries c.loop-waiting.waiting.items waits (c.in-Some.key, c.in-Some.value)
          c.in_ok-put.ensures c.in-Some.ensures.items ∙ c.loop-waiting.invariant.entries;
      ascending = λ given. ascending_rest cmp c.loop-waiting.waiting.items waits (c.in-Some.key, c.in-Some.value) c.in-Some.ensures.items
          (c.loop-waiting.invariant.ascending given);
    }

-- those that are left ascend
pub returns-in_err-put-clause-ascending : goal.returns-in_err-put-clause-ascending
returns-in_err-put-clause-ascending g c =
    λ given. ascending_rest g.K.Ord.cmp c.loop-waiting.waiting.items c.pop_front.new.self.items (c.in-Some.key, c.in-Some.value)
    c.in-Some.ensures.items (c.loop-waiting.invariant.ascending given)

-- where no more wait than are kept, all ascend as before
pub returns-clause-ascending : goal.returns-clause-ascending
returns-clause-ascending g c = c.loop-waiting.invariant.ascending
