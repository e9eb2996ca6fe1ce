use Rattle.std.proofs.Common.{List, map}
use Rattle.cedar_ast.specs.Words.{name_of}
use Rattle.cedar_ast.specs.declared.internal_name.InternalName.{InternalName}
use Rattle.cedar_diagnosis.proofs.AddingLemmas.{adds_nothing}
use Rattle.cedar_diagnosis.proofs.CommonCycles.{across_named}
use Rattle.cedar_diagnosis.proofs.ReferenceLemmas.{unresolved_names_none}
use Rattle.cedar_diagnosis.proofs.common_type_cycles.CommonTypeCycles.add.Goals as goal
use Rattle.cedar_diagnosis.specs.Finding.{RefersAcross}
use Rattle.cedar_diagnosis.specs.Links.{link_told}
use Rattle.cedar_diagnosis.specs.Mentioned.{reference_of}
use Rattle.cedar_diagnosis.specs.declared.cycles.Link.{Link}
use Rattle.cedar_name_resolution.specs.Words.{held_names}
use Rattle.cedar_schema_semantics.specs.Words.{Fault, common_type_cycle}

-- links between common types
abbrev told : List (Link InternalName) → List (Fault × Fault)
told links = map (link_told (λ key. common_type_cycle (name_of key))) links

pub returns-in-Some : goal.returns-in-Some
returns-in-Some c =
    across_named c.add_link.result (held_names c.args.self.now.defs.now) (reference_of c.args.it.now) (name_of c.args.lower.now) (name_of c.in-Some.to)
    (told c.args.links.now.items) (told c.add_link.new.links.items) (rw c.in-Some.is at c.in_ok-to.ensures) c.add_link.ensures

pub returns-in-None : goal.returns-in-None
returns-in-None c =
    let names = held_names c.args.self.now.defs.now in
    let reference = reference_of c.args.it.now in
    adds_nothing (RefersAcross names (name_of c.args.lower.now) reference) (told c.args.links.now.items)
    (λ link found. unresolved_names_none names reference (rw c.in-None.is at c.in_ok-to.ensures) found.0 found.1)
