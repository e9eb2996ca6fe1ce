use Rattle.std.proofs.Common.{map, take}
use Rattle.cedar_diagnosis.proofs.undefined_parents.UndefinedParents.add_all.Given as goal
use Rattle.cedar_diagnosis.specs.Adding.{Adds, SomeGives}
use Rattle.cedar_diagnosis.specs.Finding.{IsUndefinedParent}
use Rattle.cedar_diagnosis.specs.ReferenceKeys.{parent_told}
use Rattle.cedar_name_resolution.specs.Words.{held_names}
use Rattle.cedar_schema_ast.specs.Words.{namespace_name, parent_action, raw_reference}
use Rattle.cedar_schema_ast.specs.declared.json_schema.raw_name.RawName.{RawName}

abbrev pub invariant-loop-parent : goal.invariant-loop-parent
invariant-loop-parent l =
    let namespace = namespace_name l.namespace in
    Adds (SomeGives (IsUndefinedParent (held_names l.self.defs.now).actions)
    (map (parent_action RawName (raw_reference namespace) namespace) (take l.parent-index l.parents)))
    (map parent_told l.fn.keys.keys) (map parent_told l.keys.keys)
