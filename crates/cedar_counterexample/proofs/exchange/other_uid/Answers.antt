use Rattle.std.proofs.Common.{subst}
use Rattle.cedar_ast.proofs.ValueLemmas.{IsName-type_name}
use Rattle.cedar_counterexample.proofs.exchange.other_uid.Goals as goal
use Rattle.cedar_counterexample.specs.Words.{IsActionType, PlainName, type_name}

-- of a type that isn't one of actions a uid exists
pub unreachable-requires : goal.unreachable-requires
unreachable-requires g c =
    let ty = c.new-uid.result.ty in
    let IsOfActions : PlainName → Type 0 = IsActionType in
    c.in_ok-uid.ensures.none c.in-None.is
    (g.met.S.Scope.types_have_uids c.args.exchange.now.scope.now (type_name ty) (IsName-type_name ty)
    (λ action. c.in_ok-ty.ensures.of_entities (subst IsOfActions c.new-uid.ensures.ty action)))
