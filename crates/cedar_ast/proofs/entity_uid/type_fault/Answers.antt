use Rattle.cedar_ast.proofs.TextsOfNames.{IsOfIdentifiers-name_of}
use Rattle.cedar_ast.proofs.UidReading.{beginning_of_name, type_fault_by_name}
use Rattle.cedar_ast.proofs.entity_uid.type_fault.Goals as goal
use Rattle.cedar_ast.proofs.entity_uid.type_fault.Goals.{in-Err, in-Ok}
use Rattle.cedar_ast.specs.InternalName.{name_of}

pub returns : goal.returns
returns c = elim c.match-from_str.branch [
  | in-Err w ↦ rw w.result-is (type_fault_by_name c.args.before.now w.in-Err.fault w.in-Err.ensures.fault)
  | in-Ok w ↦ rw w.result-is (beginning_of_name c.args.before.now c.utf8.before
      (name_of w.in-Ok.field-0, IsOfIdentifiers-name_of w.in-Ok.field-0, w.in-Ok.ensures.name))
]
