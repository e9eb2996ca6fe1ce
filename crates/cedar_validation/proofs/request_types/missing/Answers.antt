use Rattle.std.proofs.Common.{sym, ◌∙◌}
use Rattle.std.proofs.lemmas.Bool.{false≢true}
use Rattle.cedar_table.specs.Entries.{HasKey}
use Rattle.cedar_validation.proofs.Checking.{checking_all, checking_here, checking_more, checking_none}
use Rattle.cedar_validation.proofs.request_types.missing.Goals as goal

pub loop-key-init : goal.loop-key-init
loop-key-init g c =
    checking_none (HasKey g.K.Ord.cmp c.args.map.now) c.args.keys _ c.into_iter-key-iterator.ensures.into_iter_gives

pub loop-key-preserved : goal.loop-key-preserved
loop-key-preserved g c =
    checking_more (HasKey g.K.Ord.cmp c.args.map.now) c.args.keys _ _ c.in-Some.key.now c.in-Some.ensures.steps
    c.loop-key.invariant (sym c.contains_key.ensures ∙ c.if-not-contains_key.false)

pub returns : goal.returns
returns g c =
    checking_all (HasKey g.K.Ord.cmp c.args.map.now) c.args.keys _ c.in-None.ensures.steps.0 c.loop-key.invariant

pub returns-then-not-contains_key : goal.returns-then-not-contains_key
returns-then-not-contains_key g c = (
  checking_here (HasKey g.K.Ord.cmp c.args.map.now) c.args.keys _ _ c.in-Some.key.now c.in-Some.ensures.steps
      c.loop-key.invariant,
  λ there. false≢true (sym c.if-not-contains_key.true ∙ (c.contains_key.ensures ∙ there)),
)
