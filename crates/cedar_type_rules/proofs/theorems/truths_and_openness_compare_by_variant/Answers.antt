use Rattle.cedar_type_rules.proofs.CompareLemmas.{truths_compare, openness_compare}
use Rattle.cedar_type_rules.proofs.theorems.truths_and_openness_compare_by_variant.Goals as goal

pub returns-clause-truths : goal.returns-clause-truths
returns-clause-truths c = truths_compare

pub returns-clause-openness : goal.returns-clause-openness
returns-clause-openness c = openness_compare
