use Rattle.std.proofs.Common.{codes, false}
use Rattle.cedar_ast.proofs.Basics.{OnOk-map}
use Rattle.cedar_json_writer.proofs.WritingLemmas.{checked, object_closed}
use Rattle.cedar_json_writer.proofs.entity_types.EntityTypeRawNameWritten.write.Goals as goal
use Rattle.cedar_json_writer.specs.Words.{body_members, flag_held, optional_member, written_kind}
use Rattle.json.specs.Json.{no_members}

pub returns-clause-written : goal.returns-clause-written
returns-clause-written c =
    let it = c.args.self.now in
    OnOk-map c.close_with_flag.result c.close_with_flag.ensures.written
    (object_closed c.args.out.now c.token.new.self c.write_kind.new.out c.close_with_flag.new.out (body_members (written_kind it.kind))
    (optional_member (codes "external") (flag_held false it.external) no_members) c.in_ok-token.ensures.ok c.in_ok-write_kind.ensures.written)

pub returns-clause-checked : goal.returns-clause-checked
returns-clause-checked c = checked c.close_with_flag.result c.close_with_flag.ensures.fault c.in_ok-write_kind.ensures.checked
