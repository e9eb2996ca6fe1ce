use Rattle.cedar_type_rules.proofs.CompareLemmas.{truths_feed, openness_feeds}
use Rattle.cedar_type_rules.proofs.theorems.truths_and_openness_feed_their_variant.Goals as goal

pub returns-clause-truths : goal.returns-clause-truths
returns-clause-truths c = truths_feed

pub returns-clause-openness : goal.returns-clause-openness
returns-clause-openness c = openness_feeds
