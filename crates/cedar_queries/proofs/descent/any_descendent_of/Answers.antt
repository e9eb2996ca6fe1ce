use Rattle.std.proofs.Common.{Any, map, sym, refl, ◌∙◌}
use Rattle.std.proofs.lemmas.Bool.{false≢true}
use Rattle.std.proofs.lemmas.List.{take_all}
use Rattle.cedar_queries.proofs.AnyLemmas.{any_more}
use Rattle.cedar_queries.proofs.descent.any_descendent_of.Goals as goal
use Rattle.cedar_queries.specs.Words.{MayBeIn, plain_action_entry, plain_entry, type_name}

pub returns-then-may_be_in_any : goal.returns-then-may_be_in_any
returns-then-may_be_in_any c = (
  λ _. (
    c.loop-lower.lower-index,
    c.lower-item.result,
    c.loop-lower-test.true,
    sym c.lower-item.is,
    c.may_be_in_any.ensures.0 c.if-may_be_in_any.true,
  ),
  λ _. refl,
)

pub loop-lower-preserved : goal.loop-lower-preserved
loop-lower-preserved c =
    any_more
    (λ lower. Any (λ upper. MayBeIn (map plain_entry c.args.types.now.entries)
    (map plain_action_entry c.args.actions.now.entries) (type_name lower) (type_name upper)) c.args.ancestors.now)
    c.args.lowers.now c.loop-lower.lower-index c.lower-item.result c.loop-lower-test.true c.lower-item.is c.loop-lower.invariant
    (λ may. false≢true (sym c.if-may_be_in_any.false ∙ c.may_be_in_any.ensures.1 may))

pub returns : goal.returns
returns c = (
  λ wrong. absurd (false≢true wrong),
  λ any. absurd (c.loop-lower.invariant
      (rw (take_all c.loop-lower.lower-index c.args.lowers.now c.loop-lower-test.false) any)),
)
