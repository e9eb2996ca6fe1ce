use Rattle.std.proofs.Common.{map}
use Rattle.cedar_diagnosis.proofs.AddingLemmas.{gives_all, gives_next, none_give}
use Rattle.cedar_diagnosis.proofs.undefined_parents.UndefinedParents.add_all.Goals as goal
use Rattle.cedar_diagnosis.specs.Finding.{IsUndefinedParent}
use Rattle.cedar_diagnosis.specs.ReferenceKeys.{parent_told}
use Rattle.cedar_name_resolution.specs.Words.{held_names}
use Rattle.cedar_schema_ast.specs.Words.{namespace_name, parent_action, raw_reference}
use Rattle.cedar_schema_ast.specs.declared.json_schema.raw_name.RawName.{RawName}

pub loop-parent-init : goal.loop-parent-init
loop-parent-init c = none_give (IsUndefinedParent (held_names c.args.self.now.defs.now).actions) (map parent_told c.args.keys.now.keys)

pub loop-parent-preserved : goal.loop-parent-preserved
loop-parent-preserved c =
    let namespace = namespace_name c.args.namespace in
    gives_next (IsUndefinedParent (held_names c.args.self.now.defs.now).actions) (parent_action RawName (raw_reference namespace) namespace)
    c.args.parents.now (map parent_told c.args.keys.now.keys) c.loop-parent.parent-index c.parent-item.result (map parent_told c.loop-parent.keys.keys)
    (map parent_told c.add.new.keys.keys) c.loop-parent-test.true c.parent-item.is c.loop-parent.invariant c.in_ok-add.ensures

pub returns : goal.returns
returns c =
    let namespace = namespace_name c.args.namespace in
    gives_all (IsUndefinedParent (held_names c.args.self.now.defs.now).actions) (parent_action RawName (raw_reference namespace) namespace)
    c.args.parents.now (map parent_told c.args.keys.now.keys) c.loop-parent.parent-index (map parent_told c.loop-parent.keys.keys)
    c.loop-parent-test.false c.loop-parent.invariant
