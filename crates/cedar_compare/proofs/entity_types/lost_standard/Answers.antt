use Rattle.std.proofs.Common.{◌≡◌, IfSome, Option, subst, sym, ◌∙◌}
use Rattle.std.proofs.lemmas.Bool.{false≢true}
use Rattle.cedar_compare.proofs.AnswerLemmas.{standard_answered}
use Rattle.cedar_compare.proofs.LostLemmas.{attributes_loss}
use Rattle.cedar_compare.proofs.SampledLemmas.{attributes_sampled}
use Rattle.cedar_compare.proofs.entity_types.lost_standard.Goals as goal
use Rattle.cedar_compare.specs.Words.{AreInhabitedWith, AttributesOutsideBetween, Exists, FieldsHaveUids, IncludedBetween, IsOutsideBetween, IsStandard, IsTypeLoss, PlainCause, SchemaEntityType, attributes_between_of, entity_lost, fields_of, kind_fields, kind_openness, named_values, new_of, old_of, plain_action_entity, plain_type, record_of, steps_of, type_name, uid_of, value_trees}
use Rattle.std.specs.Option.{option_map}

-- the types of the attributes are sampled, as all types in the old version are
pub attributes_outside_between-requires : goal.attributes_outside_between-requires
attributes_outside_between-requires c =
    let versions = c.args.versions.now in
    let old = old_of versions in
    let samples = value_trees versions.samples.now in
    let sampled = attributes_sampled versions.extensions.now samples old (type_name c.args.name.now) (plain_type c.args.old.now)
    c.requires.versions.sampled c.requires.old c.requires.standard in
    record {
      sampled = subst (AreInhabitedWith versions.extensions.now samples) (sym c.shape.ensures.attributes) sampled.inhabited;
      uids = subst (FieldsHaveUids (Exists old)) (sym c.shape.ensures.attributes) sampled.uids;
    }

-- the new version has one entity type of the name, and it isn't standard
pub removed-requires-then-not-is_standard-clause-lacking : goal.removed-requires-then-not-is_standard-clause-lacking
removed-requires-then-not-is_standard-clause-lacking c = λ other among standard.
    let new = plain_type c.in-Some.new.now in
    let same = c.requires.versions.new_keyed.types (type_name c.args.name.now) other new among c.in-Some.ensures in
    false≢true (sym c.if-not-is_standard.true ∙ c.is_standard.ensures.1 (subst (λ (t : SchemaEntityType). IsStandard t.kind) same standard))

-- an entity is lost whose attributes the old version admits and the new one doesn't
pub returns-in-Some-found : goal.returns-in-Some-found
returns-in-Some-found c =
    let versions = c.args.versions.now in
    let extensions = versions.extensions.now in
    let older = old_of versions in
    let newer = new_of versions in
    let old = plain_type c.args.old.now in
    let new = plain_type c.in-Some.new.now in
    let found = c.in-Some-found.outside in
    let lower : record_of (fields_of c.shape.result.attributes.now) c.shape.result.openness
    ≡ record_of (kind_fields old.kind) (kind_openness old.kind) = λ i. record_of (c.shape.ensures.attributes i) (c.shape.ensures.openness i) in
    let upper : record_of (fields_of c.shape-2.result.attributes.now) c.shape-2.result.openness
    ≡ record_of (kind_fields new.kind) (kind_openness new.kind) = λ i. record_of (c.shape-2.ensures.attributes i) (c.shape-2.ensures.openness i) in
    let apart = subst (λ (o : Option AttributesOutsideBetween). IfSome o (λ it. IsOutsideBetween extensions (Exists older) (Exists newer)
    (record_of (fields_of c.shape.result.attributes.now) c.shape.result.openness)
    (record_of (fields_of c.shape-2.result.attributes.now) c.shape-2.result.openness) (attributes_between_of it))) c.in-Some-found.is c.in_ok-found.ensures.some in
    let witness = plain_action_entity c.in_ok-witness.witness in
    let P : PlainCause → Type 0 = λ cause. IsTypeLoss extensions older newer (type_name c.args.name.now) (entity_lost witness cause) in
    subst P (sym c.part_cause-cause.ensures)
    (attributes_loss extensions older newer (type_name c.args.name.now) old c.requires.old new c.in-Some.ensures
    c.requires.versions.new_keyed c.requires.standard (c.is_standard.ensures.0 c.if-not-is_standard.false)
    witness (named_values found.attributes) (steps_of found.steps) (option_map uid_of found.lost) c.in_ok-witness.ensures
    (subst (λ t. IsOutsideBetween extensions (Exists older) (Exists newer) t (record_of (kind_fields new.kind) (kind_openness new.kind))
    (attributes_between_of found)) lower
    (subst (λ t. IsOutsideBetween extensions (Exists older) (Exists newer)
    (record_of (fields_of c.shape.result.attributes.now) c.shape.result.openness) t (attributes_between_of found)) upper apart)))

-- where the new version admits all attributes of the old one, the answer is what is found beside
-- them
pub returns : goal.returns
returns c =
    let versions = c.args.versions.now in
    let extensions = versions.extensions.now in
    let older = old_of versions in
    let newer = new_of versions in
    let old = plain_type c.args.old.now in
    let new = plain_type c.in-Some.new.now in
    let lower : record_of (fields_of c.shape.result.attributes.now) c.shape.result.openness
    ≡ record_of (kind_fields old.kind) (kind_openness old.kind) = λ i. record_of (c.shape.ensures.attributes i) (c.shape.ensures.openness i) in
    let upper : record_of (fields_of c.shape-2.result.attributes.now) c.shape-2.result.openness
    ≡ record_of (kind_fields new.kind) (kind_openness new.kind) = λ i. record_of (c.shape-2.ensures.attributes i) (c.shape-2.ensures.openness i) in
    let included = subst (λ t. IncludedBetween extensions older t newer (record_of (kind_fields new.kind) (kind_openness new.kind))) lower
    (subst (IncludedBetween extensions older (record_of (fields_of c.shape.result.attributes.now) c.shape.result.openness) newer) upper
    (c.in_ok-found.ensures.none.0 c.in_default-found.is)) in
    standard_answered extensions older newer (type_name c.args.name.now) old new c.requires.versions.old_keyed
    c.requires.old c.in-Some.ensures c.requires.standard (c.is_standard.ensures.0 c.if-not-is_standard.false) included
    c.lost_beside.result c.lost_beside.ensures
