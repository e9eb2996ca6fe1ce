use Rattle.std.proofs.Common.{◌≡◌, ◌∷◌, codes, map, take}
use Rattle.cedar_name_resolution.proofs.built_in.built_in_types.Given as goal
use Rattle.cedar_name_resolution.specs.Words.{None, extension_expr, long_expr, named_types, plain_name, text_expr, truth_expr}

abbrev pub invariant-loop-name : goal.invariant-loop-name
invariant-loop-name g l =
    named_types g.row.N.Denot (g.N.WrittenName.refer None) l.types.items ≡ (codes "Bool", truth_expr) ∷ (codes "Long", long_expr) ∷ (codes "String", text_expr)
    ∷ map (λ name. ((plain_name name).base, extension_expr (plain_name name).base)) (take l.name-index l.name-items)
