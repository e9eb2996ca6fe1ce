use Rattle.std.proofs.Common.{map, ap, sym, ◌∙◌, inl, inr}
use Rattle.std.proofs.lemmas.Bool.{false≢true}
use Rattle.std.proofs.lemmas.List.Elements.{Contains-append_left, Contains-append_right, Contains-append_cases}
use Rattle.cedar_name_resolution.proofs.ShadowLemmas.{shadow_is}
use Rattle.cedar_name_resolution.proofs.defs.all_defs.AllDefs.shadowed_by.Goals as goal
use Rattle.cedar_name_resolution.specs.Words.{held_names, id_text, name_of}

-- a common type of the unqualified name shadows the name
pub returns-then-is_defined_as_common : goal.returns-then-is_defined_as_common
returns-then-is_defined_as_common c =
    let held = held_names c.args.self.now in (
      Contains-append_left held.common held.entities _ (c.is_defined_as_common.ensures.0 c.if-is_defined_as_common.true),
      (
        c.new-plain.ensures.path ∙ ap (map id_text) c.new.ensures.items,
        λ unqualified. false≢true (sym c.if-is_unqualified.false ∙ c.is_unqualified.ensures.1 unqualified),
        λ reserved. false≢true (sym c.if-is_reserved.false ∙ c.is_reserved.ensures.1 reserved),
        c.new-plain.ensures.base ∙ (c.in_ok-clone.ensures ∙ c.basename.ensures),
      ),
    )

-- so does an entity type of that name
pub returns-then-is_defined_as_entity : goal.returns-then-is_defined_as_entity
returns-then-is_defined_as_entity c =
    let held = held_names c.args.self.now in (
      Contains-append_right held.common held.entities _ (c.is_defined_as_entity.ensures.0 c.if-is_defined_as_entity.true),
      (
        c.new-plain.ensures.path ∙ ap (map id_text) c.new.ensures.items,
        λ unqualified. false≢true (sym c.if-is_unqualified.false ∙ c.is_unqualified.ensures.1 unqualified),
        λ reserved. false≢true (sym c.if-is_reserved.false ∙ c.is_reserved.ensures.1 reserved),
        c.new-plain.ensures.base ∙ (c.in_ok-clone.ensures ∙ c.basename.ensures),
      ),
    )

-- where neither is defined, nothing shadows it
pub returns : goal.returns
returns c =
    λ plain among shadows.
    let held = held_names c.args.self.now in
    let same = shadow_is plain (name_of c.new-plain.result) (name_of c.args.name.now)
    (c.new-plain.ensures.base ∙ (c.in_ok-clone.ensures ∙ c.basename.ensures))
    (c.new-plain.ensures.path ∙ ap (map id_text) c.new.ensures.items) shadows in
    elim (Contains-append_cases held.common held.entities (name_of c.new-plain.result) (rw same at among)) [
      | inl common ↦ false≢true (sym c.if-is_defined_as_common.false ∙ c.is_defined_as_common.ensures.1 common)
      | inr entity ↦ false≢true (sym c.if-is_defined_as_entity.false ∙ c.is_defined_as_entity.ensures.1 entity)
    ]
