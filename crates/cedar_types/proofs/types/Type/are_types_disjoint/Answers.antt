use Rattle.std.proofs.Common.{sym}
use Rattle.cedar_type_rules.proofs.DisjointLemmas.{disjoint-unions}
use Rattle.cedar_types.proofs.types.Type.are_types_disjoint.Goals as goal
use Rattle.cedar_types.specs.Words.{lub_names, ty_of}

pub returns-in-Some-Some : goal.returns-in-Some-Some
returns-in-Some-Some c =
    let apart = disjoint-unions (ty_of c.args.a.now) (ty_of c.args.b.now) (lub_names c.in-Some-Some.lub.now)
    (lub_names c.in-Some-Some.other.now) (sym c.in-Some-Some.ensures) (sym c.in-Some-Some.ensures') in
    (λ e. apart.0 (c.is_disjoint.ensures.0 e), λ disjoint. c.is_disjoint.ensures.1 (apart.1 disjoint))
