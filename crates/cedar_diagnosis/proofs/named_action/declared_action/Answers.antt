use Rattle.std.proofs.Common.{subst, string_bytes}
use Rattle.cedar_ast.specs.Words.{IsReserved, PlainUid, name_of}
use Rattle.cedar_diagnosis.proofs.ParentLemmas.{held_unreserved}
use Rattle.cedar_diagnosis.proofs.named_action.declared_action.Goals as goal

-- no action has a reserved type
pub returns : goal.returns
returns c =
    let uid : PlainUid = record { ty = name_of c.args.name.now; eid = string_bytes c.args.id.now } in
    λ among. held_unreserved c.args.defs.now uid among (subst IsReserved c.in_ok-clone.ensures.name c.in-Err.ensures.refused.1)
