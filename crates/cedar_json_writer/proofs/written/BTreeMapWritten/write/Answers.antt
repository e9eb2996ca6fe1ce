use Rattle.std.proofs.Common.{refl}
use Rattle.std.proofs.lemmas.Result.{err_from_is_err_and}
use Rattle.cedar_ast.proofs.Basics.{OnOk-map}
use Rattle.cedar_json_writer.proofs.WritingLemmas.{begun, checked, member_flaw, members_added, members_free, turn_by}
use Rattle.cedar_json_writer.proofs.WrittenDefinitions.{declared_shape, keyed_free}
use Rattle.cedar_json_writer.proofs.written.BTreeMapWritten.write.Goals as goal

-- at first none is written
pub loop-key-init : goal.loop-key-init
loop-key-init g c =
    let held = g.T.Written in
    begun (declared_shape g.K.Key.shown_key g.K.Key.text held.shown held.document held.flaws held.Sound) _ _ _ _ refl
    c.into_iter-key-iterator.ensures.into_iter_gives.0

-- one more is written under its key
pub loop-key-preserved : goal.loop-key-preserved
loop-key-preserved g c =
    let held = g.T.Written in
    turn_by (declared_shape g.K.Key.shown_key g.K.Key.text held.shown held.document held.flaws held.Sound) c.token.new.self c.loop-key.out
    c.write_key.new.out c.write.new.out c.args.self.now.entries c.loop-key.key-iterator c.next.new.self (c.in-Some.key.now, c.in-Some.it.now)
    c.loop-key.invariant c.in-Some.ensures.steps c.in_ok-write_key.ensures c.in_ok-write.ensures.written c.in_ok-write.ensures.checked

-- where none is left, the object holds them all
pub returns-clause-written : goal.returns-clause-written
returns-clause-written g c =
    let held = g.T.Written in
    OnOk-map c.close_object.result c.close_object.ensures.written
    (λ ended. members_added (declared_shape g.K.Key.shown_key g.K.Key.text held.shown held.document held.flaws held.Sound) c.args.out.now c.token.new.self
    c.loop-key.out c.close_object.new.out c.args.self.now.entries c.loop-key.key-iterator c.loop-key.invariant c.in-None.ensures.steps.0
    c.in_ok-token.ensures.ok ended)

-- none has a flaw, and their keys are in order
pub returns-clause-checked : goal.returns-clause-checked
returns-clause-checked g c =
    let is = g.K.Key in
    let held = g.T.Written in
    checked c.close_object.result c.close_object.ensures.fault
    (keyed_free is.shown_key is.text held.shown held.document held.flaws held.Sound g.K.Ord.cmp is.order g.met.K.Key.same_order
    c.args.self.now.entries c.into_iter-key-iterator.ensures.into_iter_gives.5
    (members_free (declared_shape is.shown_key is.text held.shown held.document held.flaws held.Sound) c.token.new.self c.loop-key.out
    c.args.self.now.entries c.loop-key.key-iterator c.loop-key.invariant c.in-None.ensures.steps.0))

-- a flaw of one is a flaw of all
pub returns-in_err-write-clause-checked : goal.returns-in_err-write-clause-checked
returns-in_err-write-clause-checked g c =
    let held = g.T.Written in
    let f = c.in_err-write.field-0.0 in
    let p = err_from_is_err_and c.from_residual-in_err-write.result c.from_residual-in_err-write.ensures.1 in
    rw (p.1, p.2) (member_flaw (declared_shape g.K.Key.shown_key g.K.Key.text held.shown held.document held.flaws held.Sound) c.token.new.self
    c.loop-key.out c.args.self.now.entries c.loop-key.key-iterator c.next.new.self (c.in-Some.key.now, c.in-Some.it.now) f c.loop-key.invariant
    c.in-Some.ensures.steps c.in_err-write.ensures.checked)
