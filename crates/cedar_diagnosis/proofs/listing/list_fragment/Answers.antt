use Rattle.cedar_diagnosis.proofs.ListedSoFar.{listed_more}
use Rattle.cedar_diagnosis.proofs.listing.list_fragment.Goals as goal
use Rattle.cedar_diagnosis.specs.Lent.{declarations_of, namespace_of}
use Rattle.cedar_schema_ast.specs.Words.{raw_declarations}

-- what one more namespace declares is listed
pub loop-namespace-preserved : goal.loop-namespace-preserved
loop-namespace-preserved c =
    listed_more (λ entry. raw_declarations (namespace_of entry.0) entry.1)
    (declarations_of c.args.listed.now.items) c.args.fragment.now.0.entries c.loop-namespace.namespace-iterator c.next.new.self
    (declarations_of c.loop-namespace.listed.items) (declarations_of c.list_definition.new.listed.items)
    (c.in-Some.namespace.now, c.in-Some.it.now) c.in-Some.ensures.steps c.in_ok-list_definition.ensures c.loop-namespace.invariant
