use Rattle.std.proofs.Common.{inl, inr}
use Rattle.cedar_ast.specs.Tree.{no_tree}
use Rattle.rule_examples.proofs.CallLemmas.{Gives-text}
use Rattle.rule_examples.proofs.subtyping_examples.unknown_calls_by_example.Goals as goal

pub returns-clause-beside_a_member : goal.returns-clause-beside_a_member
returns-clause-beside_a_member c extensions ip ipaddr unknown word takes none =
    (inl (Gives-text extensions ip ipaddr word no_tree takes), (inr none, tt))

pub returns-clause-no_member : goal.returns-clause-no_member
returns-clause-no_member c extensions ip ipaddr unknown word takes none has = let found = has.1.0.1 in cc
