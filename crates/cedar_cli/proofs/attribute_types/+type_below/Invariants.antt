use Rattle.std.proofs.Common.{length}
use Rattle.cedar_cli.proofs.attribute_types.+type_below.Given as goal

abbrev pub decreases-type_below : goal.decreases-type_below
decreases-type_below l = length l.names.now
