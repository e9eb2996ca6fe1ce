use Rattle.std.proofs.Common.{◌≡◌}
use Rattle.cedar_schema_text_writer.proofs.Written.{Leaves}
use Rattle.cedar_schema_text_writer.specs.Layout.{begun_by, lines_pieces}
use Rattle.cedar_schema_text_writer.specs.Scope.{first_in, namespace_in}
use Rattle.cedar_schema_text_writer.proofs.declarations.put_all.Given as goal

abbrev pub invariant-loop-id : goal.invariant-loop-id
invariant-loop-id g l =
    let lines = lines_pieces (g.T.Declaration.pieces (first_in l.scope) (namespace_in l.scope) l.level) l.level in
    record {
      written : Leaves l.initial.out l.out (lines l.begun l.all.entries) (lines l.is_begun l.id-iterator);
      begun : begun_by l.is_begun l.id-iterator ≡ begun_by l.begun l.all.entries;
    }
