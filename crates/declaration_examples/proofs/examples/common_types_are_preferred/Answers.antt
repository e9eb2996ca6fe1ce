use Rattle.std.proofs.Common.{refl, inl, inr, arith, codes}
use Rattle.declaration_examples.proofs.examples.common_types_are_preferred.Goals as goal
use Rattle.declaration_examples.specs.Words.{CommonOrEntity, Entity, as_common, as_entity, as_long, long_expr, refer_within, within_sample}

pub returns-clause-either : goal.returns-clause-either
returns-clause-either c extensions =
    as_common (refer_within CommonOrEntity (codes "T")) (within_sample (codes "T")) long_expr
    (inl (refl, inl (tt, (0, omega arith, refl)))) (tt, (0, omega arith, refl)) as_long

pub returns-clause-entity : goal.returns-clause-entity
returns-clause-entity c extensions =
    as_entity (refer_within Entity (codes "T")) (within_sample (codes "T"))
    (inl (refl, inr (tt, (0, omega arith, refl)))) (tt, (0, omega arith, refl)) (λ body common. common.0)
