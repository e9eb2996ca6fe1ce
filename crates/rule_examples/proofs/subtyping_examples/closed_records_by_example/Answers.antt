use Rattle.std.proofs.Common.{inl, true, [], refl, codes}
use Rattle.cedar_ast.proofs.Inclusion.{Included-in_none}
use Rattle.cedar_type_rules.specs.declared.bool_type.BoolType.TheVariants as bool_type
use Rattle.rule_examples.proofs.subtyping_examples.closed_records_by_example.Goals as goal
use Rattle.rule_examples.specs.Words.{Permissive, Strict, long, truth}

pub returns-clause-known : goal.returns-clause-known
returns-clause-known c Strict =
    (tt, (λ name among. among), ((true, truth bool_type.True, inl (refl, refl, refl), refl, inl refl), tt))
returns-clause-known c Permissive =
    (tt, (λ name among. among), ((true, truth bool_type.True, inl (refl, refl, refl), (λ needed. needed), inl refl), tt))

pub returns-clause-optional : goal.returns-clause-optional
returns-clause-optional c = (tt, (λ name among. among), ((true, long, inl (refl, refl, refl), (λ needed. refl), tt), tt))

pub returns-clause-no_fewer_names : goal.returns-clause-no_fewer_names
returns-clause-no_fewer_names c Strict h = Included-in_none (codes "a") [] h.1
returns-clause-no_fewer_names c Permissive h = Included-in_none (codes "a") [] h.1
