use Rattle.std.proofs.Common.{◌+◌, ◌*◌, map, take, string_bytes}
use Rattle.cedar_ast.specs.Words.{text_cmp}
use Rattle.cedar_schema_grammar.specs.Plain.{attribute_of, type_of}
use Rattle.cedar_schema_grammar.specs.Tree.{attributes_from, level, level_of_all}
use Rattle.cedar_schema_text.proofs.SoFar.{PutSoFar}
use Rattle.cedar_schema_text.proofs.TypeLemmas.{entry_of, faults_of}
use Rattle.cedar_schema_text.specs.Shown.{attribute_shown}
use Rattle.cedar_schema_text.proofs.types.+meaning.Given as goal

abbrev pub decreases-type_of : goal.decreases-type_of
decreases-type_of l = 4 * level (type_of l.ty.now)

abbrev pub decreases-record : goal.decreases-record
decreases-record l = 4 * level_of_all (attributes_from (map attribute_of l.written.now)) + 3

abbrev pub decreases-attributes : goal.decreases-attributes
decreases-attributes l = 4 * level_of_all (attributes_from (map attribute_of l.written.now)) + 2

abbrev pub decreases-attribute : goal.decreases-attribute
decreases-attribute l = 4 * level (type_of l.written.now.of) + 1

abbrev pub invariant-attributes-loop-one : goal.invariant-attributes-loop-one
invariant-attributes-loop-one l =
    PutSoFar faults_of entry_of text_cmp string_bytes attribute_shown (map attribute_of (take l.one-index l.written)) l.all.entries
