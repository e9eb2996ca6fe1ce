use Rattle.std.proofs.Common.{ap, sym, ◌∙◌}
use Rattle.std.specs.Option.{option_map}
use Rattle.cedar_types.proofs.FieldLemmas.{field_at-pairs, length-fields}
use Rattle.cedar_types.proofs.attributes.Attributes.get_attr_counted.Goals as goal
use Rattle.cedar_types.specs.Words.{attribute_of, located, value_at}

pub returns-clause-attribute : goal.returns-clause-attribute
returns-clause-attribute c =
    ap (option_map attribute_of) (c.get_counted.ensures.value ∙ ap (λ all. value_at c.args.name.now all.entries.items) c.deref.ensures)
    ∙ sym (field_at-pairs c.args.name.now c.args.self.now)

pub returns-clause-located : goal.returns-clause-located
returns-clause-located c =
    ap (option_map located) (c.get_counted.ensures.value ∙ ap (λ all. value_at c.args.name.now all.entries.items) c.deref.ensures)

pub returns-clause-compared : goal.returns-clause-compared
returns-clause-compared c k few =
    c.get_counted.ensures.halving k (rw (length-fields c.args.self.now c.deref.result.now c.deref.ensures) few)
