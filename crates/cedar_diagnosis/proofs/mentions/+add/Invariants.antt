use Rattle.cedar_diagnosis.proofs.MentionLemmas.{MentionedSoFar}
use Rattle.cedar_diagnosis.proofs.mentions.+add.Given as goal
use Rattle.cedar_schema_ast.specs.Words.{namespace_name}

abbrev pub invariant-add_record-loop-attribute : goal.invariant-add_record-loop-attribute
invariant-add_record-loop-attribute l =
    MentionedSoFar (namespace_name l.namespace) l.record_type l.fn.mentions l.mentions l.attribute-iterator
