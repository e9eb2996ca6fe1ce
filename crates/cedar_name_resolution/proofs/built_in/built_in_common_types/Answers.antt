use Rattle.std.proofs.Common.{◌++◌, ap, map, ◌∙◌}
use Rattle.std.proofs.lemmas.List.{map-append}
use Rattle.cedar_name_resolution.proofs.built_in.built_in_common_types.Goals as goal
use Rattle.cedar_name_resolution.specs.Words.{Expr, InternalName, PlainName, Text, «Type», Written, built_in_name, free_aliases, held_names, name_of, type_names, written_common, written_expr}

pub returns : goal.returns
returns g c =
    let N = g.row.N.Denot in
    let item : InternalName × Written («Type» N) → PlainName × Expr = λ it. (name_of it.0, written_expr N g.N.WrittenName.refer it.1) in
    let under : Text × Expr → PlainName × Expr = λ it. (built_in_name it.0, it.1) in
    let names = type_names (held_names c.args.declared.now) in
    ap (written_common N g.N.WrittenName.refer) c.in_ok-append.ensures.items
    ∙ (map-append item c.in_ok-types.types.items c.in_ok-aliases.aliases.items
    ∙ (λ i. (c.in_ok-types.ensures ∙ ap (map under) c.in_ok-built_in_types.ensures) i
    ++ (c.in_ok-aliases.ensures ∙ ap (free_aliases names) c.in_ok-built_in_types-2.ensures) i))
