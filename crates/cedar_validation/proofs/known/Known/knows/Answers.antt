use Rattle.std.proofs.Common.{sym, ◌∙◌, inl, inr, ⊎_elim}
use Rattle.std.proofs.lemmas.Bool.{false≢true}
use Rattle.cedar_schema_elements.proofs.SetLemmas.{type_found}
use Rattle.cedar_validation.proofs.Keyed.{type_stands}
use Rattle.cedar_validation.proofs.known.Known.knows.Goals as goal

pub returns-then-contains_key : goal.returns-then-contains_key
returns-then-contains_key c =
    let stands = type_stands c.args.self.now.parts.now.entity_types.entries c.args.name.now in
    (λ there. inl (stands.0 (sym c.contains_key.ensures ∙ there)), λ known. c.if-contains_key.true)

pub returns-else-contains_key : goal.returns-else-contains_key
returns-else-contains_key c =
    let stands = type_stands c.args.self.now.parts.now.entity_types.entries c.args.name.now in
    let among = type_found c.args.name.now c.args.self.now.action_types.now.keys in (
      λ there. inr (among.0 (sym c.contains.ensures ∙ there)),
      ⊎_elim
          (λ there. absurd (false≢true (sym c.if-contains_key.false ∙ (c.contains_key.ensures ∙ stands.1 there))))
          (λ there. c.contains.ensures ∙ among.1 there),
    )
