use Rattle.std.proofs.Common.{ap, ◌∙◌}
use Rattle.cedar_ast.proofs.Names.{entity_type_ord-name_cmp}
use Rattle.cedar_schema.proofs.schema.ValidatorSchema.get_entity_type.Goals as goal
use Rattle.cedar_table.specs.Entries.{get_by}

pub returns : goal.returns
returns c =
    (rw c.content.ensures at c.get.ensures.value)
    ∙ ap (λ compare. get_by compare c.args.self.now.content.tables.entity_types) (λ i key. entity_type_ord-name_cmp c.args.name.now key i)
