use Rattle.std.proofs.Common.{◌≡◌, zero, suc, ap, refl, inl, arith, Contains, codes}
use Rattle.cedar_ast.proofs.Chains.{first_step}
use Rattle.cedar_schema_semantics.proofs.BuiltInLemmas.{refers_declared}
use Rattle.cedar_type_rules.proofs.ApartLemmas.{texts_differ}
use Rattle.declaration_examples.proofs.examples.cycles_name_their_members.Goals as goal
use Rattle.declaration_examples.specs.Words.{Chain, CommonOrEntity, Expr, Extensions, PlainName, RefersToCommon, alias_name, built_in_name, cycle_bag, cycle_first, cycle_second, declared_common, definitions, more, one, refer_here}

-- the one refers to the other
first_to_second : (extensions : Extensions) → RefersToCommon (definitions cycle_bag extensions)
    (alias_name (codes "A")) (alias_name (codes "B"))
first_to_second extensions = (
  cycle_first,
  refer_here CommonOrEntity (codes "B"),
  cycle_second,
  (0, omega arith, refl),
  inl refl,
  inl (refl, inl (tt, (1, omega arith, refl))),
  (tt, (1, omega arith, refl)),
)

-- and the other to the one
second_to_first : (extensions : Extensions) → RefersToCommon (definitions cycle_bag extensions)
    (alias_name (codes "B")) (alias_name (codes "A"))
second_to_first extensions = (
  cycle_second,
  refer_here CommonOrEntity (codes "A"),
  cycle_first,
  (1, omega arith, refl),
  refl,
  inl (refl, inl (tt, (0, omega arith, refl))),
  (tt, (0, omega arith, refl)),
)

-- a name in a cycle is declared
in_cycle : (extensions : Extensions) (name : PlainName) → Chain
    (RefersToCommon (definitions cycle_bag extensions)) name name → (definition : Expr)
    × Contains (declared_common cycle_bag) (name, definition)
in_cycle extensions name chain =
    let step = (first_step (RefersToCommon (definitions cycle_bag extensions)) name name chain).1 in
    (step.0, refers_declared cycle_bag extensions name step.0 step.1 step.3 step.4)

-- only the two members are declared
not_declared : (name : PlainName) (definition : Expr) → (¬ (alias_name (codes "A") ≡ name))
    → (¬ (alias_name (codes "B") ≡ name)) → ¬ Contains (declared_common cycle_bag) (name, definition)
not_declared name definition first second (zero, below, is) = first (ap (λ entry. entry.0) is)
not_declared name definition first second (suc zero, below, is) = second (ap (λ entry. entry.0) is)
not_declared name definition first second (suc (suc k), below, is) = omega (arith, below)

pub returns-clause-first : goal.returns-clause-first
returns-clause-first c extensions = more (first_to_second extensions) (one (second_to_first extensions))

pub returns-clause-second : goal.returns-clause-second
returns-clause-second c extensions = more (second_to_first extensions) (one (first_to_second extensions))

pub returns-clause-built_in : goal.returns-clause-built_in
returns-clause-built_in c extensions chain =
    let found = in_cycle extensions (built_in_name (codes "Long")) chain in
    not_declared (built_in_name (codes "Long")) found.0
    (λ same. texts_differ (codes "A") (codes "Long") refl (ap (λ name. name.base) same))
    (λ same. texts_differ (codes "B") (codes "Long") refl (ap (λ name. name.base) same))
    found.1

pub returns-clause-alias : goal.returns-clause-alias
returns-clause-alias c extensions chain =
    let found = in_cycle extensions (alias_name (codes "Long")) chain in
    not_declared (alias_name (codes "Long")) found.0
    (λ same. texts_differ (codes "A") (codes "Long") refl (ap (λ name. name.base) same))
    (λ same. texts_differ (codes "B") (codes "Long") refl (ap (λ name. name.base) same))
    found.1
