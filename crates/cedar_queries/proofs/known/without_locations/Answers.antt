use Rattle.std.proofs.Common.{◌≡◌, ◌++◌, List, ap, sym, ◌∙◌}
use Rattle.std.proofs.IntoIterSteps.{All-taken}
use Rattle.std.proofs.lemmas.List.{append-nil}
use Rattle.std.specs.declared.alloc.Global.{Global}
use Rattle.std.specs.declared.string.String.{String}
use Rattle.cedar_queries.proofs.known.without_locations.Goals as goal
use Rattle.cedar_queries.specs.Words.{AttributeType, fields_from, fields_of, plain_attributes}
use Rattle.cedar_type_rules.proofs.Extensional.{fields_from-HoldsLast}

abbrev Items : Type 0
Items = List (String Global × AttributeType)

pub returns : goal.returns
returns c =
    let entries = c.loop-name.entries.items in
    let made = c.in_ok-with_attributes.ensures.attributes in
    let all : plain_attributes entries ≡ plain_attributes c.iter-name-items.result =
    sym (ap (λ rest. plain_attributes entries ++ plain_attributes rest) c.in-None.ensures.steps.0 ∙ append-nil (plain_attributes entries))
    ∙ (c.loop-name.invariant ∙ ap plain_attributes c.into_iter-name-iterator.ensures.into_iter_gives) in
    let same : fields_from (plain_attributes entries) ≡ fields_of c.args.attrs.now = ap fields_from all ∙ c.iter-name-items.ensures.attributes in
    fields_from-HoldsLast (plain_attributes entries) (fields_of c.in_ok-with_attributes.field-0)
    (rw same c.iter-name-items.ensures.sorted_by_name) c.in_ok-with_attributes.ensures.sorted_by_name
    (rw (All-taken made.0 made.1 made.3, made.2.0) at made.4.0)
    ∙ same
