use Rattle.std.proofs.Common.{map, take}
use Rattle.cedar_ast.specs.Words.{text_cmp, unreserved_id_text}
use Rattle.cedar_schema_text.proofs.SoFar.{PutSoFar}
use Rattle.cedar_schema_text.specs.Faults.{entity_faults}
use Rattle.cedar_schema_text.specs.Here.{entity_here}
use Rattle.cedar_schema_text.specs.Meaning.{entity_meant}
use Rattle.cedar_schema_text.specs.Shown.{entity_type_shown}
use Rattle.cedar_schema_text.proofs.definition.entity_types.Given as goal

abbrev pub invariant-loop-entity : goal.invariant-loop-entity
invariant-loop-entity l =
    PutSoFar entity_faults entity_meant text_cmp unreserved_id_text entity_type_shown (map entity_here (take l.entity-index l.entities)) l.all.entries
