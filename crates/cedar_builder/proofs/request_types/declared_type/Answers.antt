use Rattle.std.proofs.Common.{sym, ◌∙◌, ◌∷◌, inr, map}
use Rattle.std.proofs.lemmas.Bool.{false≢true}
use Rattle.cedar_builder.proofs.RequestTypes.{has_name}
use Rattle.cedar_builder.proofs.request_types.declared_type.Goals as goal
use Rattle.cedar_builder.specs.Words.{type_name, undeclared_entity_types}

pub returns-then-contains_key-clause-declared : goal.returns-then-contains_key-clause-declared
returns-then-contains_key-clause-declared g c =
    (has_name c.args.entity_types.now c.in_ok-ty.ty c.contains_key.result c.contains_key.ensures).0 c.if-contains_key.true

pub returns-clause-fault : goal.returns-clause-fault
returns-clause-fault g c = inr (
  type_name c.in_ok-ty.ty,
  (λ i. undeclared_entity_types (type_name c.in_ok-ty.ty ∷ map type_name (c.new.ensures.items i))),
  c.in_ok-ty.ensures.name,
  λ among. false≢true (sym c.if-contains_key.false
      ∙ (has_name c.args.entity_types.now c.in_ok-ty.ty c.contains_key.result c.contains_key.ensures).1 among),
)
