use Rattle.std.proofs.Common.{subst, sym}
use Rattle.cedar_ast.specs.TypeNames.{TypeNamesFit}
use Rattle.schema_lines.proofs.SampleLemmas.{sample_type_fits}
use Rattle.schema_lines.proofs.outcome.schema_of.Goals as goal

pub from_raw_fragments-requires : goal.from_raw_fragments-requires
from_raw_fragments-requires c = subst TypeNamesFit (sym c.in_ok-extensions.ensures) sample_type_fits
