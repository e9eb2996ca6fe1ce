use Rattle.std.proofs.Common.{sym, ◌∙◌}
use Rattle.std.proofs.lemmas.Result.{err_from_is_err_and}
use Rattle.cedar_json.proofs.MapBuilderLemmas.{all_put_none}
use Rattle.cedar_json.proofs.map_builder.MapBuilder.finish.Goals as goal

-- out of memory gives no map
pub returns-in_err-put_all_but : goal.returns-in_err-put_all_but
returns-in_err-put_all_but g c =
    let p = err_from_is_err_and c.from_residual.result c.from_residual.ensures.1 in
    rw p.1 p.2

-- where no pair waits any more, the map has all pairs
pub returns : goal.returns
returns g c =
    sym (all_put_none g.K.Ord.cmp c.put_all_but.new.map.entries c.put_all_but.new.waiting.items c.in_ok-put_all_but.ensures.kept)
    ∙ c.in_ok-put_all_but.ensures.entries ∙ c.self.view_is
