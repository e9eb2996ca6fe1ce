use Rattle.std.proofs.Common.{subst, sym}
use Rattle.std.proofs.lemmas.Option.{IfSome_then}
use Rattle.std.specs.List.Sorted.{IsStrictlySortedBy}
use Rattle.cedar_queries.proofs.SelectedLemmas.{keys_where-ascend}
use Rattle.cedar_schema.proofs.SchemaNames.{known_order}
use Rattle.cedar_schema.proofs.schema.ValidatorSchema.ancestors.Goals as goal
use Rattle.cedar_schema.specs.Words.{has_name, name_cmp, schema_of, type_name}

pub returns-clause-in_order : goal.returns-clause-in_order
returns-clause-in_order c =
    let schema = c.args.self.now in
    let name = type_name c.args.ty.now in
    IfSome_then c.ancestors.result (rw c.content.ensures at c.ancestors.ensures.names)
    (λ above names. subst (IsStrictlySortedBy name_cmp) (sym names)
    (keys_where-ascend name_cmp (λ it. has_name it.descendants name) (schema_of schema).entity_types (known_order schema).entity_types))

pub returns-clause-known : goal.returns-clause-known
returns-clause-known c = rw c.content.ensures at c.ancestors.ensures.known
