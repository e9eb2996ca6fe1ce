use Rattle.cedar_ast.proofs.Basics.{OnOk-map}
use Rattle.cedar_ast.specs.EntityUID.{uid_of}
use Rattle.cedar_json_writer.proofs.WrittenValues.{uid_opened}
use Rattle.cedar_json_writer.proofs.values.open_with_uid.Goals as goal

pub returns : goal.returns
returns c =
    OnOk-map c.write_uid.result c.write_uid.ensures
    (uid_opened c.args.out.now c.token.new.self c.token-2.new.self c.write_uid.new.out c.args.name.now (uid_of c.args.uid.now)
    c.in_ok-token.ensures.ok c.in_ok-token-2.ensures.ok)
