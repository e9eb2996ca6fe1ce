use Rattle.std.proofs.Common.{true, refl, inl, arith, codes}
use Rattle.declaration_examples.proofs.examples.unused_common_types_count.Goals as goal
use Rattle.declaration_examples.specs.Words.{common_here, no_member, record_expr}

pub returns : goal.returns
returns c extensions =
    (record_expr no_member true, (common_here (codes "X") (record_expr no_member true), (0, omega arith, refl), refl), inl refl)
