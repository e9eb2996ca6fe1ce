use Rattle.std.proofs.Common.{ap, map, refl, ◌∙◌}
use Rattle.std.proofs.lemmas.Iterator.Consumers.{YieldsList-from_rest}
use Rattle.std.specs.Map.Iter.{deref}
use Rattle.cedar_compare.proofs.requests.listed.Goals as goal
use Rattle.cedar_compare.specs.Words.{type_name}
use Rattle.cedar_queries.proofs.BorrowedLemmas.{borrowed, borrowed_shown}
use Rattle.itertools.proofs.AdaptorLemmas.{items_from_whole_run}

pub returns : goal.returns
returns c =
    let r = c.in_ok-collect_vec.ensures.runs in
    let types = c.args.types in
    let given = items_from_whole_run (YieldsList-from_rest {shows = deref} {s = types} types refl) r.0 r.1 r.2 in
    ap (map (borrowed type_name)) r.3 ∙ borrowed_shown type_name r.0.items types given
