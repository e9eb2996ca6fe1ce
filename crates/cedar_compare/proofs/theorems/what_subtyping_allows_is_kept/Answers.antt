use Rattle.cedar_compare.proofs.BelowLemmas.{below_keeps}
use Rattle.cedar_compare.proofs.theorems.what_subtyping_allows_is_kept.Goals as goal

pub returns : goal.returns
returns c = below_keeps
