use Rattle.std.proofs.Common.{ap, refl, sym, ◌∙◌}
use Rattle.std.proofs.lemmas.Bool.{false≢true}
use Rattle.cedar_ast.proofs.Names.{entity_type_eq-same}
use Rattle.cedar_ast.specs.Words.{PlainUid}
use Rattle.library_tests.proofs.types.between.WithoutScope.lost_of.Goals as goal

-- the uid of the type is the one that is lost
pub returns-then-eq-clause-some : goal.returns-then-eq-clause-some
returns-then-eq-clause-some c =
    let same = (entity_type_eq-same c.entity_type.result.now c.args.ty.now).0 (sym c.eq.ensures ∙ c.if-eq.true) in
    (sym c.entity_type.ensures.name ∙ same, (tt, λ differ. differ refl))

-- of another type none is
pub returns-else-eq-clause-none : goal.returns-else-eq-clause-none
returns-else-eq-clause-none c = λ _ uid real both is.
    false≢true (sym c.if-eq.false ∙ (c.eq.ensures ∙ (entity_type_eq-same c.entity_type.result.now c.args.ty.now).1
    (c.entity_type.ensures.name ∙ (ap (λ (it : PlainUid). it.ty) (sym is) ∙ both.0))))
