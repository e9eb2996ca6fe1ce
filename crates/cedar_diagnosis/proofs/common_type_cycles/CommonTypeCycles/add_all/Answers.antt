use Rattle.std.proofs.Common.{List, map}
use Rattle.cedar_ast.specs.Words.{name_of}
use Rattle.cedar_ast.specs.declared.internal_name.InternalName.{InternalName}
use Rattle.cedar_diagnosis.proofs.AddingLemmas.{gives_all, gives_next, none_give}
use Rattle.cedar_diagnosis.proofs.common_type_cycles.CommonTypeCycles.add_all.Goals as goal
use Rattle.cedar_diagnosis.specs.Finding.{RefersAcross}
use Rattle.cedar_diagnosis.specs.Links.{link_told}
use Rattle.cedar_diagnosis.specs.Mentioned.{reference_of}
use Rattle.cedar_diagnosis.specs.declared.cycles.Link.{Link}
use Rattle.cedar_name_resolution.specs.Words.{held_names}
use Rattle.cedar_schema_semantics.specs.Words.{Fault, common_type_cycle}

-- links between common types
abbrev told : List (Link InternalName) → List (Fault × Fault)
told links = map (link_told (λ key. common_type_cycle (name_of key))) links

pub loop-it-init : goal.loop-it-init
loop-it-init c = none_give (RefersAcross (held_names c.args.self.now.defs.now) (name_of c.args.lower.now)) (told c.args.links.now.items)

pub loop-it-preserved : goal.loop-it-preserved
loop-it-preserved c =
    gives_next (RefersAcross (held_names c.args.self.now.defs.now) (name_of c.args.lower.now)) reference_of c.args.references.now
    (told c.args.links.now.items) c.loop-it.it-index c.it-item.result (told c.loop-it.links.items) (told c.add.new.links.items) c.loop-it-test.true
    c.it-item.is c.loop-it.invariant c.in_ok-add.ensures

pub returns : goal.returns
returns c =
    gives_all (RefersAcross (held_names c.args.self.now.defs.now) (name_of c.args.lower.now)) reference_of c.args.references.now
    (told c.args.links.now.items) c.loop-it.it-index (told c.loop-it.links.items) c.loop-it-test.false c.loop-it.invariant
