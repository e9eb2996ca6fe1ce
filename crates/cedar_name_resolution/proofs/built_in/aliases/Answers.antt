use Rattle.std.proofs.Common.{◌≡◌, ◌++◌, [], ◌∷◌, ap, arith, cond, map, not, sym, ◌∙◌}
use Rattle.std.proofs.lemmas.List.{nil_from_length}
use Rattle.cedar_name_resolution.proofs.KeptSoFar.{KeptSoFar-none, KeptSoFar-next, KeptSoFar-all}
use Rattle.cedar_name_resolution.proofs.TakenNames.{taken_is}
use Rattle.cedar_name_resolution.proofs.built_in.aliases.Goals as goal
use Rattle.cedar_name_resolution.specs.Words.{None, alias_name, held_names, id_text, name_of, type_expr, type_names, written_common}

pub loop-word-init : goal.loop-word-init
loop-word-init g c =
    let N = g.row.N.Denot in
    let refer = g.N.WrittenName.refer None in
    KeptSoFar-none _ _ _ _ _ _ (sym c.into_iter-word-iterator.ensures.into_iter_gives.0) (ap (written_common N g.N.WrittenName.refer) c.new-named.ensures.items)

pub loop-word-preserved : goal.loop-word-preserved
loop-word-preserved g c =
    let N = g.row.N.Denot in
    let refer = g.N.WrittenName.refer None in
    let names = type_names (held_names c.args.declared.now) in
    let word = id_text c.in-Some.word in
    let named : name_of c.new-name.result ≡ alias_name word =
    (λ i. record {
      base = c.new-name.ensures.base i;
      path = (c.new-name.ensures.path ∙ ap (map id_text) c.new.ensures.items) i;
    }) in
    KeptSoFar-next _ _ _ _ _ _ _ _ (c.in-Some.word, c.in-Some.ty) (not c.is_declared-is_free.result) c.in-Some.ensures.steps.0
    (ap not (taken_is names word c.is_declared-is_free.result (rw named at c.is_declared-is_free.ensures)))
    (c.in_ok-add_free.ensures ∙ ap (λ name. cond (not c.is_declared-is_free.result)
    (written_common N g.N.WrittenName.refer c.loop-word.named.items ++ (name, type_expr N refer c.in-Some.ty) ∷ []) (written_common N g.N.WrittenName.refer c.loop-word.named.items)) named)
    c.loop-word.invariant

pub returns : goal.returns
returns g c =
    let N = g.row.N.Denot in
    let refer = g.N.WrittenName.refer None in
    KeptSoFar-all _ _ _ _ _ _ (nil_from_length _ (omega (arith, c.in-None.ensures.steps.0, c.loop-word.word-iterator.rest.ok.0)))
    c.loop-word.invariant
