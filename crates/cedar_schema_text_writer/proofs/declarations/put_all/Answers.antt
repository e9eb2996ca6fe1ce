use Rattle.std.proofs.Common.{true, List, [], ◌∷◌, ◌++◌, cond, ap, sym, ◌∙◌}
use Rattle.cedar_schema_text_writer.proofs.Lines.{begun_more, lines_more}
use Rattle.cedar_schema_text_writer.proofs.Written.{adds_more, leaves_less, leaves_none}
use Rattle.cedar_schema_text_writer.specs.Layout.{begun_by, lines_pieces}
use Rattle.cedar_schema_text_writer.specs.Pieces.{Piece, line}
use Rattle.cedar_schema_text_writer.specs.Scope.{first_in, namespace_in}
use Rattle.cedar_schema_text_writer.proofs.declarations.put_all.Goals as goal

pub loop-id-preserved : goal.loop-id-preserved
loop-id-preserved g c =
    let pieces = g.T.Declaration.pieces (first_in c.args.scope) (namespace_in c.args.scope) c.args.level in
    let lines = lines_pieces pieces c.args.level in
    let begins : List Piece = cond c.loop-id.is_begun (line c.args.level ∷ []) [] in
    let one : List Piece = pieces c.in-Some.id.now c.in-Some.it.now in
    record {
      written = leaves_less c.args.out.now c.loop-id.out c.put.new.out (lines c.args.begun c.args.all.now.entries)
          (lines c.loop-id.is_begun c.loop-id.id-iterator) (lines true c.next.new.self) (begins ++ one)
          (lines_more pieces c.args.level c.loop-id.is_begun c.in-Some.id.now c.in-Some.it.now c.loop-id.id-iterator c.next.new.self c.in-Some.ensures.steps)
          (adds_more c.loop-id.out c.begin_line.new.out c.put.new.out begins one c.in_ok-begin_line.ensures c.in_ok-put.ensures)
          c.loop-id.invariant.written;
      begun = begun_more c.loop-id.is_begun (c.in-Some.id.now, c.in-Some.it.now) c.loop-id.id-iterator c.next.new.self
          (begun_by c.args.begun c.args.all.now.entries) c.in-Some.ensures.steps c.loop-id.invariant.begun;
    }

pub returns-clause-written : goal.returns-clause-written
returns-clause-written g c =
    let lines = lines_pieces (g.T.Declaration.pieces (first_in c.args.scope) (namespace_in c.args.scope) c.args.level) c.args.level in
    leaves_none c.args.out.now c.loop-id.out (lines c.args.begun c.args.all.now.entries) (lines c.loop-id.is_begun c.loop-id.id-iterator)
    (ap (lines c.loop-id.is_begun) c.in-None.ensures.steps.0) c.loop-id.invariant.written

pub returns-clause-begun : goal.returns-clause-begun
returns-clause-begun g c = sym (ap (begun_by c.loop-id.is_begun) c.in-None.ensures.steps.0) ∙ c.loop-id.invariant.begun
