use Rattle.std.proofs.lemmas.Result.{IfOk-weaker}
use Rattle.cedar_ast.proofs.ValueCopies.{no_entries}
use Rattle.cedar_counterexample.proofs.FillingLemmas.{record_sample}
use Rattle.cedar_counterexample.proofs.sampling.sample_attributes.Goals as goal
use Rattle.cedar_counterexample.specs.Words.{Entries, Has, IsSortedByName-fields, OpenTag, entries_of, fields_of, map_value, record_of, value_entries}

pub returns-clause-has : goal.returns-clause-has
returns-clause-has c =
    let extensions = c.args.extensions.now in
    let fields = fields_of c.args.attrs.now in
    let whole = entries_of c.in_ok-values.values in
    let sample = λ (openness : OpenTag). record_sample extensions fields openness (entries_of c.new.result) whole (IsSortedByName-fields c.args.attrs.now)
    (no_entries c.new.result c.new.ensures.empty) c.in_ok-values.ensures in
    let P : Entries → Type 0 = λ values. (openness : OpenTag) → Has extensions (map_value values) (record_of fields openness) in
    IfOk-weaker c.named_values.result _ (λ values. P (value_entries values))
    (λ values same. rw same (λ openness. (sample openness).1)) c.named_values.ensures
