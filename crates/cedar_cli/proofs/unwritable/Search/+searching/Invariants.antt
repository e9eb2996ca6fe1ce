use Rattle.std.proofs.Common.{◌*◌, ◌+◌}
use Rattle.cedar_cli.proofs.unwritable.Search.+searching.Given as goal

abbrev pub decreases-finds_in_type : goal.decreases-finds_in_type
decreases-finds_in_type l = 2 * l.levels

abbrev pub decreases-finds_in_attributes : goal.decreases-finds_in_attributes
decreases-finds_in_attributes l = 2 * l.levels + 1
