use Rattle.std.proofs.Common.{sym}
use Rattle.cedar_json.proofs.MapBuilderLemmas.{behind_last}
use Rattle.cedar_json.proofs.map_builder.is_behind.Goals as goal

-- a key that is greater than the last is greater than all
pub returns-in-Less : goal.returns-in-Less
returns-in-Less g c =
    let waiting = c.args.waiting.now in
    λ e ascending. behind_last g.K.Ord.cmp g.met.K.Ord.total waiting.items waiting.len c.args.key.now c.in-Some.pair.now waiting.ok.0
    ascending c.in-Some.ensures.lookup (sym c.in-Less.ensures)
