use Rattle.std.proofs.Common.{sym, ◌∙◌, ⊎_elim}
use Rattle.std.proofs.lemmas.Bool.{false≢true}
use Rattle.cedar_compare.proofs.LostUidLemmas.{actions_lost, lost_first}
use Rattle.cedar_compare.proofs.lost_uids.lost_if_enumerated.Goals as goal
use Rattle.cedar_compare.specs.Words.{IsActionType, schema_of}

-- where nothing is enumerated, only actions are lost
pub returns : goal.returns
returns c =
    let old = schema_of c.args.old.now in
    let new = schema_of c.args.new.now in
    lost_first old new (λ uid. IsActionType uid.ty) c.new-lost.result c.new-lost.ensures.empty
    (actions_lost old new (⊎_elim (λ yes. absurd (false≢true (sym c.if-is_enumerated.false ∙ yes))) (λ none. none) c.requires))
