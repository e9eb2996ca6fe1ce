use Rattle.cedar_ast.proofs.Basics.{OnOk-map}
use Rattle.cedar_ast.specs.EntityUID.{uid_of}
use Rattle.cedar_json_writer.proofs.WrittenValues.{uid_added}
use Rattle.cedar_json_writer.proofs.values.write_entity.Goals as goal

pub returns-clause-written : goal.returns-clause-written
returns-clause-written c =
    OnOk-map c.close_object.result c.close_object.ensures.written
    (uid_added c.args.out.now c.open_with_uid.new.out c.close_object.new.out (uid_of c.args.uid.now) c.in_ok-open_with_uid.ensures)
