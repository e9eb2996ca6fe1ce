use Rattle.std.proofs.Common.{sym, ◌∙◌, map-id, subst, flat_map, refl, []}
use Rattle.std.proofs.lemmas.Grind.{put_two}
use Rattle.std.proofs.lemmas.Iterator.{YieldsList-from_chars}
use Rattle.std.proofs.lemmas.Iterator.Consumers.{YieldsList-end}
use Rattle.std.proofs.lemmas.List.{flat_map_more}
use Rattle.std.specs.Fmt.{HasWritten}
use Rattle.cedar_ast.proofs.quoted.write_escaped.Goals as goal
use Rattle.cedar_ast.specs.UidText.{escaped}

pub loop-c-preserved : goal.loop-c-preserved
loop-c-preserved g c plain =
    let before = c.loop-c.invariant plain in
    put_two _ _ _ _ _ _ _ before (c.in_ok-write.ensures.writes before.plain refl) (flat_map_more escaped [] c.loop-c.yielded c.in-Some.c)

pub returns : goal.returns
returns g c plain _ =
    let end = YieldsList-end (YieldsList-from_chars c.args.eid.now c.utf8.eid cc) c.loop-c.yielded _ c.loop-c.yielded_by _ _ c.in-None.is
    c.next.ensures.steps in
    subst (λ cs. HasWritten g.W.Write.write_str_gives c.args.f.now (flat_map escaped cs) c.loop-c.f) (sym (map-id c.loop-c.yielded) ∙ end.0)
    (c.loop-c.invariant plain)
