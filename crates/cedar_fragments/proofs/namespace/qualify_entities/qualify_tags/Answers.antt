use Rattle.std.proofs.Common.{◌≡◌, Some, ap}
use Rattle.std.specs.Option.{option_map}
use Rattle.cedar_fragments.proofs.namespace.qualify_entities.qualify_tags.Goals as goal
use Rattle.cedar_fragments.specs.Words.{Expr, Reference, Refers, held_names, namespace_name, type_expr}
use Rattle.cedar_name_resolution.proofs.ExitLemmas.{exit_holds}
use Rattle.cedar_name_resolution.proofs.RefusedLemmas.{refused_wider}

pub returns-in_err-ty-in-Some-clause-refused : goal.returns-in_err-ty-in-Some-clause-refused
returns-in_err-ty-in-Some-clause-refused g c =
    let N = g.row.N.Denot in
    let refer = g.N.WrittenName.refer (namespace_name c.args.namespace) in
    let names = held_names c.args.all_defs.now in
    let RefersInTags : Reference → Type 0 = λ reference. (expr : Expr) × (option_map (type_expr N refer) c.args.tags ≡ Some expr) × Refers expr reference in
    exit_holds _ _ _ c.from_residual.ensures.1
    (refused_wider names (Refers (type_expr N refer c.in-Some.ty)) RefersInTags
    (λ reference refers. (type_expr N refer c.in-Some.ty, ap (option_map (type_expr N refer)) c.in-Some.is, refers)) _ (c.in_err-ty-in-Some).ensures.refused)
