use Rattle.std.proofs.Common.{◌∙◌, ap}
use Rattle.std.specs.Ordering.{ordering_reverse}
use Rattle.cedar_table.proofs.SearchLemmas.{nowhere}
use Rattle.cedar_table.proofs.search.halved_place.Goals as goal

pub returns-in-Ok-clause-found : goal.returns-in-Ok-clause-found
returns-in-Ok-clause-found g c =
    (c.in-Ok.ensures.bound, λ d. g.met.K.Ord.total.antisymm c.args.key.now _ ∙ ap ordering_reverse (c.in-Ok.ensures.position d))

pub returns-in-Err-clause-lacking : goal.returns-in-Err-clause-lacking
returns-in-Err-clause-lacking g c =
    nowhere g.met.K.Ord.total c.args.keys.now c.requires c.args.key.now _ c.in-Err.ensures.position
