use Rattle.std.proofs.Common.{IfOk, subst}
use Rattle.cedar_diagnosis.proofs.DefinedLemmas.{names_of_all}
use Rattle.cedar_diagnosis.proofs.defined.declared_names.Goals as goal
use Rattle.cedar_diagnosis.specs.Lent.{declaration_of}
use Rattle.cedar_name_resolution.specs.Words.{HoldsJust, Names, held_names}

pub returns : goal.returns
returns c =
    let Holds : Names → Type 0 = λ names. IfOk c.new.result (λ defs. HoldsJust (held_names defs) names) in
    subst Holds (names_of_all declaration_of c.args.bag.now) c.new.ensures
