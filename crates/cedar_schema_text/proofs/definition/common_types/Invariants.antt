use Rattle.std.proofs.Common.{map, take}
use Rattle.cedar_ast.specs.Words.{text_cmp}
use Rattle.cedar_schema_ast.specs.CommonTypeId.{common_type_text}
use Rattle.cedar_schema_text.proofs.SoFar.{PutSoFar}
use Rattle.cedar_schema_text.specs.Faults.{common_faults}
use Rattle.cedar_schema_text.specs.Here.{common_here}
use Rattle.cedar_schema_text.specs.Meaning.{common_meant}
use Rattle.cedar_schema_text.specs.Shown.{common_type_shown}
use Rattle.cedar_schema_text.proofs.definition.common_types.Given as goal

abbrev pub invariant-loop-common : goal.invariant-loop-common
invariant-loop-common l =
    PutSoFar common_faults common_meant text_cmp common_type_text common_type_shown (map common_here (take l.common-index l.commons)) l.all.entries
