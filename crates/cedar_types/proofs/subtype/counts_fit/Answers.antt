use Rattle.std.proofs.Common.{ap, ◌∙◌}
use Rattle.cedar_types.proofs.SubtypeSteps.{NamesBelow-strict, NamesBelow-closed, counts-Decides}
use Rattle.cedar_types.proofs.subtype.counts_fit.Goals as goal
use Rattle.cedar_types.specs.Words.{IsSortedByName-fields, fields_of}

pub returns-in-ClosedAttributes : goal.returns-in-ClosedAttributes
returns-in-ClosedAttributes c =
    let counts = counts-Decides c.args.lower.now c.args.upper.now c.as_slice.result.now c.as_slice-2.result.now
    (c.as_slice.ensures ∙ ap (λ all. all.entries.items) c.deref.ensures)
    (c.as_slice-2.ensures ∙ ap (λ all. all.entries.items) c.deref-2.ensures) in
    NamesBelow-closed c.args.mode c.args.openness (fields_of c.args.lower.now) (fields_of c.args.upper.now) _ c.in-Permissive.is
    c.in-ClosedAttributes.is (IsSortedByName-fields c.args.lower.now) (IsSortedByName-fields c.args.upper.now) counts

pub returns-in-Strict : goal.returns-in-Strict
returns-in-Strict c =
    let counts = counts-Decides c.args.lower.now c.args.upper.now c.as_slice.result.now c.as_slice-2.result.now
    (c.as_slice.ensures ∙ ap (λ all. all.entries.items) c.deref.ensures)
    (c.as_slice-2.ensures ∙ ap (λ all. all.entries.items) c.deref-2.ensures) in
    NamesBelow-strict c.args.mode c.args.openness (fields_of c.args.lower.now) (fields_of c.args.upper.now) _ c.in-Strict.is
    (IsSortedByName-fields c.args.lower.now) (IsSortedByName-fields c.args.upper.now) counts
