use Rattle.cedar_schema.proofs.collected_fragments.CollectedFragments.with.Goals as goal

pub returns : goal.returns
returns g c = λ fragments so_far. record {
  located = c.in_ok-with.ensures fragments so_far.located;
  gathered = c.in_ok-with-2.ensures fragments so_far.gathered;
}
