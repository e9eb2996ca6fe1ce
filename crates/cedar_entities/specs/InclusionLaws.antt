-- Laws of inclusion between the values of two schemas.
use Rattle.std.specs.Prelude.{◌↔◌}
use Rattle.cedar_ast.specs.declared.extension.Extensions.{Extensions}
use Rattle.cedar_entities.specs.Exists.{Exists}
use Rattle.cedar_entities.specs.Inclusion.{HasUidsIn, IncludedBetween, KeptByParts}
use Rattle.cedar_schema_semantics.specs.PlainSchema.{PlainSchema}
use Rattle.cedar_type_rules.specs.Words.{IsInhabited, IsWellFormed, Ty}

-- on types of which the first is inhabited throughout, by uids that exist too, the parts tell
-- inclusion between the values of two schemas
abbrev pub PartsTellInclusionBetween : Type 0
PartsTellInclusionBetween = (old new : PlainSchema) (lower upper : Ty)
    → IsWellFormed lower → IsWellFormed upper → (extensions : Extensions)
    → IsInhabited extensions lower → HasUidsIn (Exists old) lower
    → KeptByParts (Exists old) (Exists new) lower upper
    ↔ IncludedBetween extensions old lower new upper
