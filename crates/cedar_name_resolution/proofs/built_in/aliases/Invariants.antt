use Rattle.std.proofs.Common.{not}
use Rattle.std.specs.Vec.Iter.{into_iter_items}
use Rattle.cedar_name_resolution.proofs.KeptSoFar.{KeptSoFar}
use Rattle.cedar_name_resolution.proofs.built_in.aliases.Given as goal
use Rattle.cedar_name_resolution.specs.Words.{Expr, Text, None, alias_name, held_names, id_text, is_taken, type_expr, type_names, written_common}

abbrev pub invariant-loop-word : goal.invariant-loop-word
invariant-loop-word g l =
    let N = g.row.N.Denot in
    let refer = g.N.WrittenName.refer None in
    KeptSoFar {C = Text × Expr} (λ it. not (is_taken (type_names (held_names l.declared)) it.0))
    (λ it. (id_text it.0, type_expr N refer it.1)) (λ it. (alias_name it.0, it.1))
    l.fn.types.items (written_common N g.N.WrittenName.refer l.named.items) (into_iter_items l.word-iterator)
