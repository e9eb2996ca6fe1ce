use Rattle.std.proofs.Common.{map, ap, ◌∙◌}
use Rattle.std.proofs.lemmas.List.{map-append}
use Rattle.cedar_diagnosis.proofs.ListedSoFar.{mapped_next}
use Rattle.cedar_diagnosis.proofs.positions.add_names.Goals as goal
use Rattle.cedar_diagnosis.specs.Mentioned.{reference_of}
use Rattle.cedar_schema_ast.specs.Words.{namespace_name, raw_reference}
use Rattle.cedar_schema_semantics.specs.Words.{Entity}

-- one more name is listed
pub loop-name-preserved : goal.loop-name-preserved
loop-name-preserved c =
    mapped_next (raw_reference (namespace_name c.args.namespace) Entity) (map reference_of c.args.found.now.items) c.args.names.now
    c.loop-name.name-index c.name-item.result (map reference_of c.loop-name.found.items) (map reference_of c.push.new.self.items)
    c.loop-name-test.true c.name-item.is c.loop-name.invariant
    (ap (map reference_of) c.in_ok-push.ensures.items ∙ map-append reference_of c.loop-name.found.items _)
