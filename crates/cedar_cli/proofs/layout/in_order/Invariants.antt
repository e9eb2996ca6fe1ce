use Rattle.cedar_cli.proofs.Places.{AreIndexed, index_of}
use Rattle.cedar_cli.proofs.layout.in_order.Given as goal

abbrev pub invariant-loop-index : goal.invariant-loop-index
invariant-loop-index l = AreIndexed index_of l.member-items l.places.items l.index
