use Rattle.std.proofs.Common.{◌&&◌, subst, sym}
use Rattle.std.specs.List.Sorted.{IsStrictlySortedBy}
use Rattle.cedar_queries.proofs.SelectedLemmas.{keys_where-ascend}
use Rattle.cedar_schema.proofs.SchemaNames.{known_order}
use Rattle.cedar_schema.proofs.schema.ValidatorSchema.actions_for_principal_and_resource.Goals as goal
use Rattle.cedar_schema.specs.Words.{has_name, kind_principals, kind_resources, schema_of, type_name, uid_cmp}

pub returns-clause-in_order : goal.returns-clause-in_order
returns-clause-in_order c =
    let schema = c.args.self.now in
    let principal = type_name c.args.principal.now in
    let resource = type_name c.args.resource.now in
    let actions = rw c.content.ensures at c.actions_for_principal_and_resource.ensures in
    subst (IsStrictlySortedBy uid_cmp) (sym actions)
    (keys_where-ascend uid_cmp (λ it. has_name (kind_principals it.kind) principal && has_name (kind_resources it.kind) resource)
    (schema_of schema).actions (known_order schema).actions)
