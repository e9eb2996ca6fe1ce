use Rattle.cedar_fragments.proofs.LocLemmas.{KeepsAttribute}
use Rattle.cedar_fragments.proofs.QualifiedLemmas.{ResolvesAttribute}
use Rattle.cedar_fragments.proofs.namespace.qualify_types.+qualify.Given as goal
use Rattle.cedar_fragments.specs.Words.{held_names, namespace_name, out-RecordType}
use Rattle.cedar_name_resolution.proofs.Pairwise.{RelatedSoFar}

abbrev pub invariant-qualify_record-loop-name : goal.invariant-qualify_record-loop-name
invariant-qualify_record-loop-name g l =
    let refer = g.N.WrittenName.refer (namespace_name l.namespace) in
    let all = (out-RecordType g.row.N.Denot l.fn.record_type).attributes.entries in
    RelatedSoFar (ResolvesAttribute (held_names l.all_defs) refer) all l.attributes.entries l.name-iterator
    × RelatedSoFar KeepsAttribute all l.attributes.entries l.name-iterator
