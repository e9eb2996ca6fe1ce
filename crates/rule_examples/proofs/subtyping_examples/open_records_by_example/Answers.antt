use Rattle.std.proofs.Common.{[], codes}
use Rattle.cedar_ast.proofs.Inclusion.{Included-in_none}
use Rattle.rule_examples.proofs.subtyping_examples.open_records_by_example.Goals as goal

pub returns-clause-same_names : goal.returns-clause-same_names
returns-clause-same_names c h = Included-in_none (codes "a") [] h.1
