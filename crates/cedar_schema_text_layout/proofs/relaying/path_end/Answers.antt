use Rattle.std.proofs.Common.{◌≡◌, ◌<◌, ◌∙◌, length, ap, subst, sym, arith, rules}
use Rattle.std.proofs.lemmas.Option.{get_or_from_slice_get, slice_get_within}
use Rattle.cedar_schema_text_layout.specs.Relaid.{IsPathKind}
use Rattle.cedar_schema_text_layout.proofs.Before.{path_more, path_one}
use Rattle.cedar_schema_text_layout.proofs.relaying.path_end.Goals as goal

pub loop-turn-init : goal.loop-turn-init
loop-turn-init c =
    let pieces = c.args.pieces.now in
    let here = c.requires in
    let within = slice_get_within pieces c.args.from here.0 here.1 in
    let is = subst IsPathKind (ap (λ it. it.kind) (sym (get_or_from_slice_get pieces c.args.from here.0 here.0 here.1))) here.2 in
    (omega arith, omega (arith, within), path_one pieces c.args.from here.0 within is)

pub loop-turn-preserved : goal.loop-turn-preserved
loop-turn-preserved c =
    let pieces = c.args.pieces.now in
    let next = c.next_token-next.result in
    let within : next < length pieces = search rules in (
      omega (arith, c.loop-turn.invariant.0, c.next_token-next.ensures.behind),
      omega (arith, within),
      path_more pieces c.args.from c.loop-turn.end next _ c.loop-turn.invariant.2 c.next_token-next.ensures.comments within
          (c.is_of_path.ensures c.if-not-is_of_path.false),
    )
