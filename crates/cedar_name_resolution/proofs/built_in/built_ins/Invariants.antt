use Rattle.std.specs.Vec.Iter.{into_iter_items}
use Rattle.cedar_name_resolution.proofs.ListedSoFar.{ListedSoFar}
use Rattle.cedar_name_resolution.proofs.built_in.built_ins.Given as goal
use Rattle.cedar_name_resolution.specs.Words.{Expr, None, PlainName, built_in_name, id_text, name_of, type_expr, written_expr}

abbrev pub invariant-loop-word : goal.invariant-loop-word
invariant-loop-word g l =
    let N = g.row.N.Denot in
    let refer = g.N.WrittenName.refer in
    ListedSoFar {C = PlainName × Expr} (λ it. Unit {0}) (λ it. (built_in_name (id_text it.0), type_expr N (refer None) it.1)) (λ it. (name_of it.0, written_expr N refer it.1))
    l.fn.types.items l.named.items (into_iter_items l.word-iterator)
