use Rattle.std.proofs.Common.{map, sym, ◌∙◌, inl, inr}
use Rattle.std.proofs.lemmas.Bool.{false≢true}
use Rattle.std.proofs.lemmas.List.Elements.{Contains-append_cases, Contains-append_left, Contains-append_right}
use Rattle.cedar_schema_elements.proofs.SetLemmas.{type_found}
use Rattle.cedar_schema_writer.proofs.known.Known.knows.Goals as goal
use Rattle.cedar_schema_writer.specs.Words.{PlainName, SchemaEntityType, known_schema, type_name}

pub returns-then-has_entity_type : goal.returns-then-has_entity_type
returns-then-has_entity_type c = (
  λ there. Contains-append_left (map (λ (it : PlainName × SchemaEntityType). it.0) (known_schema c.args.self.now).entity_types)
      (map type_name c.args.self.now.action_types.now.keys) (type_name c.args.name.now)
      (c.has_entity_type.ensures.0 c.if-has_entity_type.true),
  λ known. c.if-has_entity_type.true,
)

pub returns-else-has_entity_type : goal.returns-else-has_entity_type
returns-else-has_entity_type c =
    let types = map (λ (it : PlainName × SchemaEntityType). it.0) (known_schema c.args.self.now).entity_types in
    let action_types = map type_name c.args.self.now.action_types.now.keys in
    let name = type_name c.args.name.now in
    let among = type_found c.args.name.now c.args.self.now.action_types.now.keys in (
      λ there. Contains-append_right types action_types name (among.0 (sym c.contains.ensures ∙ there)),
      λ known. elim (Contains-append_cases types action_types name known) [
        | inl there ↦ absurd (false≢true (sym c.if-has_entity_type.false ∙ c.has_entity_type.ensures.1 there))
        | inr there ↦ c.contains.ensures ∙ among.1 there
      ],
    )
