use Rattle.std.proofs.Common.{Contains, ap, subst, sym}
use Rattle.cedar_compare.proofs.BareLemmas.{of_its_kind}
use Rattle.cedar_compare.proofs.entity_types.lost_of_type.Goals as goal
use Rattle.cedar_compare.specs.Words.{EntityTypeKind, IsEntityOfKind, old_of, plain_kind, plain_type}

pub returns-in_default : goal.returns-in_default
returns-in_default c = λ it named real (ty, there, of).
    absurd (c.in_default.ensures ty (subst (λ n. Contains (old_of c.args.versions.now).entity_types (n, ty)) named there))

pub returns-in-External : goal.returns-in-External
returns-in-External c = λ it named real of.
    let extensions = c.args.versions.now.extensions.now in
    let old = old_of c.args.versions.now in
    let ty = plain_type c.in-Some.old.now in
    let there = subst (λ n. Contains old.entity_types (n, ty)) (sym named) c.in-Some.ensures in
    absurd (subst (λ (k : EntityTypeKind). IsEntityOfKind extensions old k it) (ap plain_kind c.in-External.is)
    (of_its_kind extensions old c.requires.versions.old_keyed it ty there of))
