use Rattle.std.proofs.Common.{◌≡◌, [], ap, map, reverse, string_bytes, ◌∙◌}
use Rattle.std.proofs.lemmas.Str.{IsUtf8-string_bytes}
use Rattle.cedar_ast.proofs.ValueCopies.{uid_real}
use Rattle.cedar_counterexample.proofs.NamingLemmas.{naming_beside}
use Rattle.cedar_counterexample.proofs.naming.naming_open.Goals as goal
use Rattle.cedar_counterexample.specs.Words.{entries_of, entry, fields_of, naming_start_of, no_entry, step_of, uid_of, uid_value}

-- the uid under a name that the record lacks is a start
pub returns : goal.returns
returns g c = λ extensions.
    let name = c.in_ok-fresh_name.field-0 in
    let uid = uid_of c.in-Some.uid.now in
    let values = c.in_ok-values.values in
    let start = naming_start_of (record { start = record { values = values; steps = c.new-steps.result }; uid = c.in_ok-uid.uid }) in
    let is : entries_of values ≡ entry (string_bytes name) (uid_value uid) no_entry =
    c.in_ok-values.ensures ∙ ap (λ value. entry (string_bytes name) value no_entry) c.in_ok-uid_expr.ensures in
    let whole : start ≡ record { start = record { values = entry (string_bytes name) (uid_value uid) no_entry; steps = [] }; uid = uid } =
    λ i. record {
      start = record { values = is i; steps = map step_of (reverse (c.new-steps.ensures.items i)) };
      uid = c.in_ok-uid.ensures.uid i;
    } in
    rw (c.in-OpenAttributes.is, whole)
    (naming_beside extensions (g.S.Scope.ExistsInOld c.args.scope.now) (g.S.Scope.ExistsInNew c.args.scope.now) (fields_of c.args.attrs.now)
    (string_bytes name) uid (IsUtf8-string_bytes name) c.in_ok-fresh_name.ensures (uid_real c.in-Some.uid.now) c.in-Some.ensures.some)
