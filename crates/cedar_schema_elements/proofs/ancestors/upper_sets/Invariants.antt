use Rattle.cedar_schema_elements.proofs.AncestorLemmas.{AncestorsSoFar}
use Rattle.cedar_schema_elements.proofs.ancestors.upper_sets.Given as goal

abbrev pub invariant-loop-upper : goal.invariant-loop-upper
invariant-loop-upper g l =
    AncestorsSoFar g.K.Ord.cmp g.V.SchemaNode.key_name g.V.SchemaNode.below l.nodes.entries l.ancestors l.upper-iterator
