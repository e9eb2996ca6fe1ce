use Rattle.std.proofs.Common.{refl, sym, ◌∙◌}
use Rattle.std.proofs.lemmas.Bool.{false≢true}
use Rattle.cedar_compare.proofs.CompareLemmas.{complete_schema, nothing_unresolved}
use Rattle.cedar_compare.proofs.comparing.check.Goals as goal

pub returns-then-not-is_complete-clause-fault : goal.returns-then-not-is_complete-clause-fault
returns-then-not-is_complete-clause-fault c = (
  refl,
  λ complete. false≢true (sym c.if-not-is_complete.true ∙ c.is_complete.ensures.1 (nothing_unresolved c.args.schema.now complete)),
)

pub returns-in-None-clause-comparable : goal.returns-in-None-clause-comparable
returns-in-None-clause-comparable c = record {
  complete = complete_schema c.args.schema.now (c.is_complete.ensures.0 c.if-not-is_complete.false);
  sampled = c.in_ok-ty.ensures.none c.in-None.is;
}
