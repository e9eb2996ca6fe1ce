use Rattle.std.proofs.Common.{ap, map}
use Rattle.cedar_ast.proofs.Basics.{OnOk-map}
use Rattle.cedar_json_writer.proofs.WritingLemmas.{array_added, item_turn}
use Rattle.cedar_json_writer.proofs.WrittenEntityData.{uids_added}
use Rattle.cedar_json_writer.proofs.entity_text.write_ancestors.Goals as goal
use Rattle.cedar_json_writer.specs.Words.{entity_ancestors, uid_document, uid_of}

pub loop-uid-preserved : goal.loop-uid-preserved
loop-uid-preserved c =
    let l = c.loop-uid in
    item_turn uid_document _ l.out c.write_uid.new.out (entity_ancestors c.args.entity.now) (map uid_of l.uid-iterator)
    (map uid_of c.next.new.self) (uid_of c.in-Some.uid.now) l.invariant (ap (map uid_of) c.in-Some.ensures.steps)
    c.in_ok-write_uid.ensures

pub returns : goal.returns
returns c =
    let l = c.loop-uid in
    let uids = entity_ancestors c.args.entity.now in
    OnOk-map c.token-2.result c.token-2.ensures.ok (λ ended. uids_added c.args.out.now c.token-2.new.self uids
    (array_added uid_document c.args.out.now c.token.new.self l.out c.token-2.new.self uids (map uid_of l.uid-iterator) l.invariant
    (ap (map uid_of) c.in-None.ensures.steps.0) c.in_ok-token.ensures.ok ended))
