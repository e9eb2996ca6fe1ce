use Rattle.std.proofs.Common.{map}
use Rattle.cedar_schema_elements.proofs.AncestorLemmas.{BelowSoFar}
use Rattle.cedar_schema_elements.proofs.ancestors.add_ancestors.Given as goal

abbrev pub invariant-loop-lower : goal.invariant-loop-lower
invariant-loop-lower g l =
    BelowSoFar g.K.Ord.cmp g.V.SchemaNode.key_name l.initial.ancestors (g.V.SchemaNode.key_name l.upper) (g.V.SchemaNode.below l.node)
    l.ancestors (map g.V.SchemaNode.key_name l.lower-iterator)
