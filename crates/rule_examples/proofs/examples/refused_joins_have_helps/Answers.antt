use Rattle.rule_examples.proofs.HelpExamples.{helps-widths, helps-flags, helps-types}
use Rattle.rule_examples.proofs.examples.refused_joins_have_helps.Goals as goal

pub returns-clause-widths : goal.returns-clause-widths
returns-clause-widths c = helps-widths

pub returns-clause-flags : goal.returns-clause-flags
returns-clause-flags c = helps-flags

pub returns-clause-types : goal.returns-clause-types
returns-clause-types c = helps-types
