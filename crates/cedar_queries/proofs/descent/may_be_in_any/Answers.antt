use Rattle.std.proofs.Common.{map, sym, refl, ◌∙◌}
use Rattle.std.proofs.lemmas.Bool.{false≢true}
use Rattle.std.proofs.lemmas.List.{take_all}
use Rattle.cedar_queries.proofs.AnyLemmas.{any_more}
use Rattle.cedar_queries.proofs.descent.may_be_in_any.Goals as goal
use Rattle.cedar_queries.specs.Words.{MayBeIn, plain_action_entry, plain_entry, type_name}

pub returns-then-may_be_in : goal.returns-then-may_be_in
returns-then-may_be_in c = (
  λ _. (
    c.loop-upper.upper-index,
    c.upper-item.result,
    c.loop-upper-test.true,
    sym c.upper-item.is,
    c.may_be_in.ensures.0 c.if-may_be_in.true,
  ),
  λ _. refl,
)

pub loop-upper-preserved : goal.loop-upper-preserved
loop-upper-preserved c =
    any_more
    (λ upper. MayBeIn (map plain_entry c.args.types.now.entries) (map plain_action_entry c.args.actions.now.entries)
    (type_name c.args.lower.now) (type_name upper))
    c.args.ancestors.now c.loop-upper.upper-index c.upper-item.result c.loop-upper-test.true c.upper-item.is c.loop-upper.invariant
    (λ may. false≢true (sym c.if-may_be_in.false ∙ c.may_be_in.ensures.1 may))

pub returns : goal.returns
returns c = (
  λ wrong. absurd (false≢true wrong),
  λ any. absurd (c.loop-upper.invariant
      (rw (take_all c.loop-upper.upper-index c.args.ancestors.now c.loop-upper-test.false) any)),
)
