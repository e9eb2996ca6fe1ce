use Rattle.cedar_elaboration.proofs.ScopeLemmas.{resolved_if_elaborated}
use Rattle.cedar_elaboration.proofs.elaborating.elaborate.Goals as goal
use Rattle.cedar_elaboration.specs.Words.{namespace_name, type_expr}

pub returns-clause-resolved : goal.returns-clause-resolved
returns-clause-resolved g c =
    let expr = type_expr g.row.N.Denot (g.N.WrittenName.refer (namespace_name c.args.namespace)) c.args.ty.now in
    resolved_if_elaborated c.args.scope.now expr c.elaborate_type.result c.elaborate_type.ensures.elaborates
