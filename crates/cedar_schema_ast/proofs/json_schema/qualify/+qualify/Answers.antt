use Rattle.std.proofs.Common.{sym, subst, refl, List}
use Rattle.std.specs.String.{string_cmp_total}
use Rattle.std.specs.declared.alloc.Global.{Global}
use Rattle.std.specs.declared.string.String.{String}
use Rattle.cedar_schema_ast.proofs.Converted.{ConvertedSoFar, ConvertedSoFar-more, converted_all}
use Rattle.cedar_schema_ast.proofs.QualifyLemmas.{Made, both_ways, written_both_ways, same_both_ways, own_record, positional_in_record}
use Rattle.cedar_schema_ast.proofs.json_schema.qualify.+qualify.Goals as goal
use Rattle.cedar_schema_ast.specs.Words.{ConditionalName, RawName, TypeOfAttribute, namespace_name, out-RecordType}

-- one more attribute is put in, which says the same both ways
pub qualify_record-loop-name-preserved : goal.qualify_record-loop-name-preserved
qualify_record-loop-name-preserved t c =
    let namespace = namespace_name c.args.namespace in
    let all = (out-RecordType RawName c.args.record_type).attributes.entries in
    let P : List (String Global × TypeOfAttribute ConditionalName) → Type 0 = λ made.
    ConvertedSoFar (written_both_ways namespace) both_ways all made c.next.new.self in
    subst P (sym c.in_ok-put.ensures)
    (ConvertedSoFar-more (written_both_ways namespace) both_ways string_cmp_total all c.loop-name.name-iterator
    c.next.new.self c.loop-name.attributes.entries c.in-Some.name c.in-Some.attribute _
    c.into_iter-name-iterator.ensures.into_iter_gives.5 c.in-Some.ensures.steps
    (same_both_ways namespace c.in-Some.attribute _ refl c.in_ok-ty.ensures.own c.in_ok-ty.ensures.placed)
    c.loop-name.invariant)

-- where none is left, the record says the same by the kinds of its own references
pub qualify_record-returns-clause-own : goal.qualify_record-returns-clause-own
qualify_record-returns-clause-own t c =
    let namespace = namespace_name c.args.namespace in
    let it : Made = record {
      attributes = c.loop-name.attributes;
      additional_attributes = (out-RecordType RawName c.args.record_type).additional_attributes;
    } in
    own_record namespace c.args.record_type it refl
    (converted_all (written_both_ways namespace) both_ways _ _ _ c.in-None.ensures.steps.0 c.loop-name.invariant)

-- and the same by the kinds that positions permit
pub qualify_record-returns-clause-placed : goal.qualify_record-returns-clause-placed
qualify_record-returns-clause-placed t c =
    let namespace = namespace_name c.args.namespace in
    let it : Made = record {
      attributes = c.loop-name.attributes;
      additional_attributes = (out-RecordType RawName c.args.record_type).additional_attributes;
    } in
    positional_in_record namespace c.args.record_type it refl
    (converted_all (written_both_ways namespace) both_ways _ _ _ c.in-None.ensures.steps.0 c.loop-name.invariant)
