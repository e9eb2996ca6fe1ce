use Rattle.std.proofs.Common.{ap, ◌∙◌, Err}
use Rattle.std.proofs.lemmas.Result.{err_from_is_err_and}
use Rattle.cedar_ast.specs.Name.{plain_name}
use Rattle.cedar_types.proofs.MembershipLemmas.{IsMembership-known, IsMembership-unknown, none_from_some}
use Rattle.cedar_types.proofs.member.call_has.Goals as goal

pub returns : goal.returns
returns c =
    IsMembership-known c.args.extensions.now _ _ _ c.in_ok-known.known.now c.gives.result c.in_ok-known.ensures.function c.gives.ensures

pub returns-in_err-known : goal.returns-in_err-known
returns-in_err-known c =
    let p = err_from_is_err_and c.from_residual.result c.from_residual.ensures.1 in
    IsMembership-unknown c.args.extensions.now _ _ _ c.from_residual.result c.in_err-known.field-0.0 (p.1 ∙ ap Err p.2)
    (ap plain_name c.in_err-known.ensures.name) (none_from_some _ c.in_err-known.ensures.known.1)
