use Rattle.cedar_counterexample.proofs.NamedLemmas.{named_all, named_more}
use Rattle.cedar_counterexample.proofs.named.named_values.Goals as goal

pub loop-name-preserved-in_ok-insert : goal.loop-name-preserved-in_ok-insert
loop-name-preserved-in_ok-insert c =
    named_more c.args.exprs.entries c.loop-name.values.entries c.insert.new.self.entries c.loop-name.name-iterator c.next.new.self
    c.in-Some.name c.in-Some.expr c.new.result c.in-Some.ensures.steps c.new.ensures c.in_ok-insert.ensures.entries c.loop-name.invariant

pub loop-name-preserved : goal.loop-name-preserved
loop-name-preserved c =
    named_more c.args.exprs.entries c.loop-name.values.entries c.insert.new.self.entries c.loop-name.name-iterator c.next.new.self
    c.in-Some.name c.in-Some.expr c.new.result c.in-Some.ensures.steps c.new.ensures c.in_ok-insert.ensures.entries c.loop-name.invariant

pub returns : goal.returns
returns c = named_all c.args.exprs c.loop-name.values c.loop-name.name-iterator c.in-None.ensures.steps.0 c.loop-name.invariant
