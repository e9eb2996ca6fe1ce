use Rattle.std.proofs.Common.{◌≡◌}
use Rattle.cedar_validation.proofs.LastLemmas.{AreNamed}
use Rattle.cedar_validation.proofs.named.by_name.Given as goal

-- a node stands under its name, which is located as the node is
abbrev pub IsPlaced : (g : goal.Over) → g.row.K.Denot × g.row.V.Denot → Type 0
IsPlaced g it = (g.V.SchemaNode.node_name it.1 ≡ g.V.SchemaNode.key_name it.0) × g.V.SchemaNode.IsLocatedAs it.0 it.1

abbrev pub invariant-loop-node : goal.invariant-loop-node
invariant-loop-node g l =
    AreNamed g.K.Ord.cmp g.V.SchemaNode.name_order g.V.SchemaNode.key_name g.V.SchemaNode.node_name (IsPlaced g) l.named l.yielded
