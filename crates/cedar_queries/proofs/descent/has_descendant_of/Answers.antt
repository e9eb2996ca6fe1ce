use Rattle.std.proofs.Common.{◌≡◌, ap, map, sym, refl, ◌∙◌}
use Rattle.std.proofs.lemmas.Bool.{false≢true}
use Rattle.cedar_ast.proofs.Names.{entity_type_eq-same}
use Rattle.cedar_queries.proofs.AnyLemmas.{any_finds, any_skips}
use Rattle.cedar_queries.proofs.descent.has_descendant_of.Goals as goal
use Rattle.cedar_queries.specs.Words.{type_name, uid_of}

pub returns-then-eq : goal.returns-then-eq
returns-then-eq c =
    let ty = type_name c.args.ty.now in
    let so_far = rw (ap (map uid_of) c.in-Some.ensures.steps) at c.loop-below.invariant in
    let same = sym c.entity_type.ensures.name ∙ (entity_type_eq-same c.entity_type.result.now c.args.ty.now).0 (sym c.eq.ensures ∙ c.if-eq.true) in (
      λ _. any_finds (λ below. below.ty ≡ ty) (uid_of c.in-Some.below.now) (map uid_of c.next.new.self) so_far same,
      λ _. refl,
    )

pub loop-below-preserved : goal.loop-below-preserved
loop-below-preserved c =
    let ty = type_name c.args.ty.now in
    let so_far = rw (ap (map uid_of) c.in-Some.ensures.steps) at c.loop-below.invariant in
    any_skips (λ below. below.ty ≡ ty) (uid_of c.in-Some.below.now) (map uid_of c.next.new.self) so_far
    (λ same. false≢true (sym c.if-eq.false ∙ (c.eq.ensures
    ∙ (entity_type_eq-same c.entity_type.result.now c.args.ty.now).1 (c.entity_type.ensures.name ∙ same))))
