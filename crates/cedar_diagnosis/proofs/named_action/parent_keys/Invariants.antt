use Rattle.std.proofs.Common.{◌≡◌, map, take}
use Rattle.cedar_diagnosis.proofs.named_action.parent_keys.Given as goal
use Rattle.cedar_diagnosis.specs.ReferenceKeys.{key_parent}
use Rattle.cedar_schema_ast.specs.Words.{namespace_name, parent_action, raw_reference}
use Rattle.cedar_schema_ast.specs.declared.json_schema.raw_name.RawName.{RawName}

abbrev pub invariant-loop-parent : goal.invariant-loop-parent
invariant-loop-parent l =
    map key_parent l.keys.items
    ≡ map (parent_action RawName (raw_reference (namespace_name l.namespace)) (namespace_name l.namespace)) (take l.parent-index l.parents)
