use Rattle.std.proofs.Common.{sym, ◌∙◌}
use Rattle.std.proofs.lemmas.Bool.{false≢true}
use Rattle.cedar_compare.proofs.lost_uids.is_lost.Goals as goal

-- a uid that exists in the new version isn't lost
pub returns-then-exists_in : goal.returns-then-exists_in
returns-then-exists_in c = (
  λ wrong. absurd (false≢true wrong),
  λ lost. absurd (lost.1 (c.exists_in.ensures.0 c.if-exists_in.true)),
)

-- another one is where it exists in the old
pub returns : goal.returns
returns c = (
  λ yes. (c.entity_exists.ensures.0 yes, λ exists. false≢true (sym c.if-exists_in.false ∙ c.exists_in.ensures.1 exists)),
  λ lost. c.entity_exists.ensures.1 lost.0,
)
