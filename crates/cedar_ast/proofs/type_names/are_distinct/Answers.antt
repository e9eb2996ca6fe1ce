use Rattle.std.proofs.Common.{refl}
use Rattle.std.proofs.lemmas.List.{take_all}
use Rattle.cedar_ast.proofs.Lists.{repeated, distinct_more}
use Rattle.cedar_ast.proofs.type_names.are_distinct.Goals as goal
use Rattle.cedar_ast.specs.Name.{plain_name}

pub returns-then-has_name : goal.returns-then-has_name
returns-then-has_name c = (
  λ e. absurd cc,
  λ distinct. absurd (repeated plain_name _ _ _ c.loop-i-test.true c.index-names-i.is
      (c.if-has_name.ensures.0 refl) distinct),
)

pub loop-i-preserved : goal.loop-i-preserved
loop-i-preserved c =
    distinct_more plain_name _ _ _ c.loop-i-test.true c.index-names-i.is (λ there. let e =
    c.if-has_name.ensures.1 there in cc) c.loop-i.invariant

pub returns : goal.returns
returns c = (
  λ _. rw (take_all c.loop-i.i c.args.names.now c.loop-i-test.false) at c.loop-i.invariant,
  λ _. refl,
)
