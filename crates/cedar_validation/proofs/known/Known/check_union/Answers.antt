use Rattle.std.proofs.Common.{ap, map, sym, ◌∙◌, inr}
use Rattle.std.proofs.lemmas.Bool.{false≢true}
use Rattle.std.proofs.lemmas.List.{nil_from_length}
use Rattle.std.specs.Slice.Iter.{iter_rest}
use Rattle.cedar_validation.proofs.Checking.{checking_all, checking_here, checking_more, checking_none}
use Rattle.cedar_validation.proofs.known.Known.check_union.Goals as goal
use Rattle.cedar_validation.specs.Words.{Knows, lub_names, type_name}

pub loop-name-init : goal.loop-name-init
loop-name-init c =
    checking_none (Knows c.args.self.now) (lub_names c.args.union.now) _
    (ap (λ items. map type_name (iter_rest items)) c.into_iter-name-iterator.ensures.into_iter_gives ∙ c.iter-name-items.ensures.names)

pub loop-name-preserved : goal.loop-name-preserved
loop-name-preserved c =
    checking_more (Knows c.args.self.now) (lub_names c.args.union.now) _ _ (type_name c.in-Some.name.now)
    (ap (map type_name) c.in-Some.ensures.steps) c.loop-name.invariant (c.knows.ensures.0 c.if-not-knows.false)

pub returns-clause-sound : goal.returns-clause-sound
returns-clause-sound c =
    checking_all (Knows c.args.self.now) (lub_names c.args.union.now) _
    (ap (map type_name) (nil_from_length _ c.in-None.ensures.steps.0)) c.loop-name.invariant

pub returns-then-not-knows-clause-fault : goal.returns-then-not-knows-clause-fault
returns-then-not-knows-clause-fault c = inr (
  type_name c.in-Some.name.now,
  c.in_ok-undeclared.ensures,
  checking_here (Knows c.args.self.now) (lub_names c.args.union.now) _ _ (type_name c.in-Some.name.now)
      (ap (map type_name) c.in-Some.ensures.steps) c.loop-name.invariant,
  λ known. false≢true (sym c.if-not-knows.true ∙ c.knows.ensures.1 known),
)
