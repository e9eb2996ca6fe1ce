use Rattle.std.proofs.lemmas.Result.{IfOk-weaker}
use Rattle.cedar_ast.proofs.ValueCopies.{no_entries}
use Rattle.cedar_counterexample.proofs.BetweenLemmas.{existing_has, existing_only, existing_real}
use Rattle.cedar_counterexample.proofs.FillingLemmas.{record_sample}
use Rattle.cedar_counterexample.proofs.between.existing_attributes.Goals as goal
use Rattle.cedar_counterexample.specs.Words.{ClosedAttributes, Has, IsSortedByName-fields, IsValue, NamesOnly, OpenTag, entries_of, fields_of, map_value, record_of, value_entries}

-- the samples are exchanged for real values
pub returns-clause-real : goal.returns-clause-real
returns-clause-real g c =
    let Old = g.S.Scope.ExistsInOld c.args.scope.now in
    let sample = record_sample c.args.extensions.now (fields_of c.args.attrs.now) ClosedAttributes (entries_of c.new.result)
    (entries_of c.in_ok-values.values) (IsSortedByName-fields c.args.attrs.now) (no_entries c.new.result c.new.ensures.empty) c.in_ok-values.ensures in
    IfOk-weaker c.existing_entries.result _ (λ values. IsValue (map_value (value_entries values)))
    (λ values are. existing_real c.args.extensions.now Old Old 0 (map_value (entries_of c.in_ok-values.values)) (map_value (value_entries values)) are
    sample.0) c.existing_entries.ensures

-- of the record, be it open or closed
pub returns-clause-has : goal.returns-clause-has
returns-clause-has g c =
    let Old = g.S.Scope.ExistsInOld c.args.scope.now in
    let fields = fields_of c.args.attrs.now in
    let sample = λ (openness : OpenTag). record_sample c.args.extensions.now fields openness (entries_of c.new.result)
    (entries_of c.in_ok-values.values) (IsSortedByName-fields c.args.attrs.now) (no_entries c.new.result c.new.ensures.empty) c.in_ok-values.ensures in
    IfOk-weaker c.existing_entries.result _
    (λ values. (openness : OpenTag) → Has c.args.extensions.now (map_value (value_entries values)) (record_of fields openness))
    (λ values are openness. existing_has c.args.extensions.now Old Old 0 (map_value (entries_of c.in_ok-values.values))
    (map_value (value_entries values)) are (record_of fields openness) c.requires.uids (sample openness).1) c.existing_entries.ensures

-- which name what exists
pub returns-clause-exists : goal.returns-clause-exists
returns-clause-exists g c =
    let Old = g.S.Scope.ExistsInOld c.args.scope.now in
    IfOk-weaker c.existing_entries.result _ (λ values. NamesOnly Old (map_value (value_entries values)))
    (λ values are. existing_only c.args.extensions.now Old Old 0 (map_value (entries_of c.in_ok-values.values)) (map_value (value_entries values)) are)
    c.existing_entries.ensures
