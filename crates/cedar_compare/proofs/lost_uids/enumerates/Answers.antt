use Rattle.std.proofs.Common.{ap, inl, inr, map, refl, subst, sym, ◌∙◌}
use Rattle.std.proofs.lemmas.Bool.{false≢true}
use Rattle.cedar_ast.proofs.Basics.{Contains-image}
use Rattle.cedar_ast.proofs.Lists.{Contains-preimage}
use Rattle.cedar_compare.proofs.LeftLemmas.{sure_all, sure_more, sure_none}
use Rattle.cedar_compare.proofs.lost_uids.enumerates.Goals as goal
use Rattle.cedar_compare.specs.Words.{EntityType, IsEnumerated, PlainName, SchemaEntityType, ValidatorEntityType, entity_type_of, plain_entry, schema_entries}

-- at first all entity types are left
pub loop-ty-init : goal.loop-ty-init
loop-ty-init c =
    sure_none (λ (it : ValidatorEntityType). ¬ IsEnumerated (entity_type_of it).kind) (map (λ entry. entry.1) (schema_entries c.args.schema.now)) _
    (c.into_iter-ty-iterator.ensures.into_iter_gives ∙ c.entity_types-ty-items.ensures.types)

pub returns-then-is_enumerated : goal.returns-then-is_enumerated
returns-then-is_enumerated c = inl refl

-- one more isn't enumerated
pub loop-ty-preserved : goal.loop-ty-preserved
loop-ty-preserved c =
    let P : ValidatorEntityType → Type 0 = λ it. ¬ IsEnumerated (entity_type_of it).kind in
    sure_more P P (map (λ entry. entry.1) (schema_entries c.args.schema.now)) _ _ c.in-Some.ty.now c.in-Some.ensures.steps
    (λ it none. none) (λ of. false≢true (sym c.if-is_enumerated.false ∙ c.is_enumerated.ensures.1 of)) c.loop-ty.invariant

-- where none is left, none is
pub returns : goal.returns
returns c = inr (λ name it there of.
    let entries = schema_entries c.args.schema.now in
    let P : ValidatorEntityType → Type 0 = λ each. ¬ IsEnumerated (entity_type_of each).kind in
    let entry = Contains-preimage plain_entry entries (name, it) there in
    sure_all P (map (λ each. each.1) entries) _ c.in-None.ensures.steps.0 c.loop-ty.invariant entry.0.1
    (Contains-image (λ (each : EntityType × ValidatorEntityType). each.1) entries entry.0 entry.1)
    (subst IsEnumerated (ap (λ (each : PlainName × SchemaEntityType). each.1.kind) (sym entry.2)) of))
