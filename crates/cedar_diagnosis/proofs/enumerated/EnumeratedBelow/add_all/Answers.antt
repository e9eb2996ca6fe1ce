use Rattle.std.proofs.Common.{map}
use Rattle.cedar_ast.specs.Words.{type_name}
use Rattle.cedar_diagnosis.proofs.AddingLemmas.{gives_all, gives_next, none_give}
use Rattle.cedar_diagnosis.proofs.enumerated.EnumeratedBelow.add_all.Goals as goal
use Rattle.cedar_diagnosis.specs.Finding.{IsBelow}
use Rattle.cedar_diagnosis.specs.KeyTies.{below_told}
use Rattle.cedar_diagnosis.specs.Mentioned.{reference_of}
use Rattle.cedar_name_resolution.specs.Words.{held_names}

pub loop-it-init : goal.loop-it-init
loop-it-init c = none_give (IsBelow (held_names c.args.self.now.defs.now) (type_name c.args.lower.now)) (map below_told c.args.keys.now.keys)

pub loop-it-preserved : goal.loop-it-preserved
loop-it-preserved c =
    gives_next (IsBelow (held_names c.args.self.now.defs.now) (type_name c.args.lower.now)) reference_of c.args.references.now
    (map below_told c.args.keys.now.keys) c.loop-it.it-index c.it-item.result (map below_told c.loop-it.keys.keys) (map below_told c.add.new.keys.keys)
    c.loop-it-test.true c.it-item.is c.loop-it.invariant c.in_ok-add.ensures

pub returns : goal.returns
returns c =
    gives_all (IsBelow (held_names c.args.self.now.defs.now) (type_name c.args.lower.now)) reference_of c.args.references.now
    (map below_told c.args.keys.now.keys) c.loop-it.it-index (map below_told c.loop-it.keys.keys) c.loop-it-test.false c.loop-it.invariant
