use Rattle.std.proofs.Common.{sym, refl}
use Rattle.cedar_queries.proofs.NameLemmas.{is_has_name}
use Rattle.cedar_queries.proofs.tests_of_values.ForRequestTestValidatorActionId.passes.Goals as goal
use Rattle.cedar_queries.specs.Words.{action_of, kind_principals, kind_resources, type_name}

pub returns-then-is_applicable_principal_type : goal.returns-then-is_applicable_principal_type
returns-then-is_applicable_principal_type c =
    let kind = (action_of c.args.action.now).kind in
    let first = is_has_name c.is_applicable_principal_type.result (kind_principals kind) (type_name c.args.self.now.principal.now)
    c.is_applicable_principal_type.ensures in
    let second = is_has_name c.is_applicable_resource_type.result (kind_resources kind) (type_name c.args.self.now.resource.now)
    c.is_applicable_resource_type.ensures in
    rw (sym first, c.if-is_applicable_principal_type.true) second

pub returns-else-is_applicable_principal_type : goal.returns-else-is_applicable_principal_type
returns-else-is_applicable_principal_type c =
    let kind = (action_of c.args.action.now).kind in
    let first = is_has_name c.is_applicable_principal_type.result (kind_principals kind) (type_name c.args.self.now.principal.now)
    c.is_applicable_principal_type.ensures in
    rw (sym first, c.if-is_applicable_principal_type.false) refl
