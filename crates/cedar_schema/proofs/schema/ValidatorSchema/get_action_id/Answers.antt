use Rattle.std.proofs.Common.{ap, ◌∙◌}
use Rattle.cedar_ast.proofs.Uids.{entity_uid_ord-uid_cmp}
use Rattle.cedar_schema.proofs.schema.ValidatorSchema.get_action_id.Goals as goal
use Rattle.cedar_table.specs.Entries.{get_by}

pub returns : goal.returns
returns c =
    (rw c.content.ensures at c.get.ensures.value)
    ∙ ap (λ compare. get_by compare c.args.self.now.content.tables.actions) (λ i key. entity_uid_ord-uid_cmp c.args.uid.now key i)
