use Rattle.std.proofs.Common.{map}
use Rattle.cedar_ast.specs.Words.{name_of, type_name}
use Rattle.cedar_diagnosis.proofs.AddingLemmas.{adds_nothing}
use Rattle.cedar_diagnosis.proofs.EnumeratedLemmas.{below_named}
use Rattle.cedar_diagnosis.proofs.ReferenceLemmas.{unresolved_names_none}
use Rattle.cedar_diagnosis.proofs.enumerated.EnumeratedBelow.add.Goals as goal
use Rattle.cedar_diagnosis.specs.Finding.{IsBelow}
use Rattle.cedar_diagnosis.specs.KeyTies.{below_told}
use Rattle.cedar_diagnosis.specs.Mentioned.{reference_of}
use Rattle.cedar_name_resolution.specs.Words.{held_names}

pub returns-in-Some : goal.returns-in-Some
returns-in-Some c =
    below_named c.add_upper.result (held_names c.args.self.now.defs.now) (reference_of c.args.it.now) (type_name c.args.lower.now) (name_of c.in-Some.name)
    (map below_told c.args.keys.now.keys) (map below_told c.add_upper.new.keys.keys) (rw c.in-Some.is at c.in_ok-name.ensures) c.add_upper.ensures

pub returns-in-None : goal.returns-in-None
returns-in-None c =
    let names = held_names c.args.self.now.defs.now in
    let reference = reference_of c.args.it.now in
    adds_nothing (IsBelow names (type_name c.args.lower.now) reference) (map below_told c.args.keys.now.keys)
    (λ fault found. unresolved_names_none names reference (rw c.in-None.is at c.in_ok-name.ensures) found.0 found.1)
