use Rattle.std.proofs.Common.{arith, sym, ◌∙◌}
use Rattle.std.proofs.lemmas.List.{nil_from_length}
use Rattle.std.proofs.lemmas.Simd.{map-map}
use Rattle.std.specs.Option.{option_map}
use Rattle.cedar_name_resolution.proofs.ListedSoFar.{ListedSoFar-none, ListedSoFar-more, listed_same}
use Rattle.cedar_name_resolution.proofs.built_in.built_ins.Goals as goal
use Rattle.cedar_name_resolution.specs.Words.{Expr, Id, None, PlainName, Text, «Type», built_in_name, id_text, name_of, type_expr}

pub loop-word-init : goal.loop-word-init
loop-word-init g c = ListedSoFar-none _ _ _ _ _ _ (sym c.into_iter-word-iterator.ensures.into_iter_gives.0) c.new-named.ensures.items

pub loop-word-preserved : goal.loop-word-preserved
loop-word-preserved g c =
    let N = g.row.N.Denot in
    let refer = g.N.WrittenName.refer None in
    ListedSoFar-more _ _ _ _ _ _ _ _ (c.in-Some.word, c.in-Some.ty) _ c.in-Some.ensures.steps.0 c.in_ok-push.ensures.items
    (λ i. (
      c.in_ok-built_in_type_name.ensures i,
      type_expr N (g.N.WrittenName.refer (option_map name_of (c.nowhere.ensures.namespace i)))
          (c.nowhere.ensures.declared i),
    )) tt c.loop-word.invariant

pub returns : goal.returns
returns g c =
    let N = g.row.N.Denot in
    let refer = g.N.WrittenName.refer None in
    let named : Id × «Type» N → Text × Expr = λ it. (id_text it.0, type_expr N refer it.1) in
    let under : Text × Expr → PlainName × Expr = λ it. (built_in_name it.0, it.1) in
    listed_same _ _ _ _ _ _ (nil_from_length _ (omega (arith, c.in-None.ensures.steps.0, c.loop-word.word-iterator.rest.ok.0)))
    c.loop-word.invariant
    ∙ sym (map-map under named c.args.types.items)
