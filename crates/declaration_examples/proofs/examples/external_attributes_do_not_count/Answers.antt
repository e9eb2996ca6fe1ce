use Rattle.std.proofs.Common.{[], None, map, refl}
use Rattle.cedar_schema_ast.specs.declared.json_schema.entity_type.EntityTypeKind.TheVariants as variant
use Rattle.declaration_examples.proofs.examples.external_attributes_do_not_count.Goals as goal
use Rattle.declaration_examples.specs.Words.{Entity, raw_reference}

pub returns-clause-body : goal.returns-clause-body
returns-clause-body c (variant.Standard it) = (map (raw_reference None Entity) it.member_of_types.items, refl)
returns-clause-body c (variant.Enum choices) = ([], refl)
