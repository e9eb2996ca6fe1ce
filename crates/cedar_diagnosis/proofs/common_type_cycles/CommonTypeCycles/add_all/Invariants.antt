use Rattle.std.proofs.Common.{map, take}
use Rattle.cedar_ast.specs.Words.{name_of}
use Rattle.cedar_diagnosis.proofs.common_type_cycles.CommonTypeCycles.add_all.Given as goal
use Rattle.cedar_diagnosis.specs.Adding.{Adds, SomeGives}
use Rattle.cedar_diagnosis.specs.Finding.{RefersAcross}
use Rattle.cedar_diagnosis.specs.Links.{link_told}
use Rattle.cedar_diagnosis.specs.Mentioned.{reference_of}
use Rattle.cedar_name_resolution.specs.Words.{held_names}
use Rattle.cedar_schema_semantics.specs.Words.{common_type_cycle}

abbrev pub invariant-loop-it : goal.invariant-loop-it
invariant-loop-it l =
    Adds (SomeGives (RefersAcross (held_names l.self.defs.now) (name_of l.lower)) (map reference_of (take l.it-index l.references)))
    (map (link_told (λ key. common_type_cycle (name_of key))) l.fn.links.items) (map (link_told (λ key. common_type_cycle (name_of key))) l.links.items)
