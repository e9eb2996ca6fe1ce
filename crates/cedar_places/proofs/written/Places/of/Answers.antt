use Rattle.cedar_places.proofs.TableLemmas.{IsUnderWay-next}
use Rattle.cedar_places.proofs.written.Places.of.Goals as goal
use Rattle.cedar_places.specs.Words.{definition_marks, fragment_marks, namespace_of}

-- what one more namespace declares is listed
pub loop-namespace-preserved : goal.loop-namespace-preserved
loop-namespace-preserved c =
    IsUnderWay-next (λ entry. definition_marks (namespace_of entry.0) entry.1) c.new-table.result (fragment_marks c.args.fragment.now) c.loop-namespace.table
    c.list_definition.new.table (c.in-Some.namespace.now, c.in-Some.definition.now) c.loop-namespace.namespace-iterator c.next.new.self
    c.in-Some.ensures.steps c.list_definition.ensures c.loop-namespace.invariant
