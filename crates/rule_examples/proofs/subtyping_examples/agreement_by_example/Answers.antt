use Rattle.std.proofs.Common.{◌≡◌, inl, true, false, [], refl, codes}
use Rattle.cedar_ast.proofs.Inclusion.{Included-in_none}
use Rattle.cedar_type_rules.specs.Ty.{long}
use Rattle.rule_examples.proofs.subtyping_examples.agreement_by_example.Goals as goal

pub returns-clause-flags : goal.returns-clause-flags
returns-clause-flags c h = let flags : true ≡ false = (h.2.0 true long (inl (refl, refl, refl))).0 in cc

pub returns-clause-names : goal.returns-clause-names
returns-clause-names c h = Included-in_none (codes "a") [] h.0
