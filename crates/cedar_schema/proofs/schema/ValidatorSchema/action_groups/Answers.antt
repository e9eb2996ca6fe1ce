use Rattle.std.proofs.Common.{subst, sym}
use Rattle.std.specs.List.Sorted.{IsStrictlySortedBy}
use Rattle.cedar_queries.proofs.SelectedLemmas.{keys_where-ascend}
use Rattle.cedar_schema.proofs.SchemaNames.{known_order}
use Rattle.cedar_schema.proofs.schema.ValidatorSchema.action_groups.Goals as goal
use Rattle.cedar_schema.specs.Words.{is_nonempty, schema_of, uid_cmp}

pub returns-clause-in_order : goal.returns-clause-in_order
returns-clause-in_order c =
    let schema = c.args.self.now in
    let groups = rw c.content.ensures at c.action_groups.ensures in
    subst (IsStrictlySortedBy uid_cmp) (sym groups)
    (keys_where-ascend uid_cmp (λ it. is_nonempty it.descendants) (schema_of schema).actions (known_order schema).actions)
