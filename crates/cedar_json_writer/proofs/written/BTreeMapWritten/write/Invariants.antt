use Rattle.cedar_json_writer.proofs.WritingLemmas.{SoFar}
use Rattle.cedar_json_writer.proofs.WrittenDefinitions.{declared_shape}
use Rattle.cedar_json_writer.proofs.written.BTreeMapWritten.write.Given as goal

abbrev pub invariant-loop-key : goal.invariant-loop-key
invariant-loop-key g l =
    let held = g.T.Written in
    SoFar (declared_shape g.K.Key.shown_key g.K.Key.text held.shown held.document held.flaws held.Sound) l.initial.out l.out
    l.self.entries l.key-iterator
