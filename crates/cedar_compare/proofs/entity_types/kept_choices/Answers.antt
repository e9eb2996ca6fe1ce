use Rattle.std.proofs.Common.{◌≡◌, List, Some, ap, inl, map, refl, subst, sym}
use Rattle.std.proofs.lemmas.Option.{same_Some}
use Rattle.std.proofs.lemmas.Result.{IfOk-weaker}
use Rattle.std.specs.BTreeSet.{BTreeSet}
use Rattle.cedar_compare.proofs.entity_types.kept_choices.Goals as goal
use Rattle.cedar_compare.specs.Words.{AreKept, Eid, EntityTypeKind, IsEntityOfKind, SameItems, Text, bare_entity, choice_texts, eid_text, enumerated_kind, external_kind, kind_choices, new_of, plain_type, standard_kind, type_name}

-- a kind that has choices is enumerated
with_choices : (kind : EntityTypeKind) (choices : List Text) → Some choices ≡ kind_choices kind → kind ≡ enumerated_kind choices
with_choices (enumerated_kind others) choices is = ap enumerated_kind (sym (same_Some choices others is))
with_choices (standard_kind fields openness tags) choices is = cc
with_choices external_kind choices is = cc

-- each choice of the type of this name in the new version is an entity there
pub returns-in-Some-choices_of : goal.returns-in-Some-choices_of
returns-in-Some-choices_of c =
    let versions = c.args.versions.now in
    let extensions = versions.extensions.now in
    let new = new_of versions in
    let name = type_name c.args.name.now in
    let ty = plain_type c.in-Some.new.now in
    let choices = choice_texts c.in-Some-choices_of.choices.now in
    let kind = with_choices ty.kind choices c.in-Some-choices_of.ensures in
    let Same : BTreeSet Eid → Type 0 = λ set. SameItems (map eid_text set.keys) choices in
    let Kept : BTreeSet Eid → Type 0 = λ set. AreKept extensions new name (map eid_text set.keys) in
    IfOk-weaker c.choice_set.result Same Kept (λ set same id among.
    inl (
      ty,
      c.in-Some.ensures,
      subst (λ (k : EntityTypeKind). IsEntityOfKind extensions new k (bare_entity name id)) (sym kind)
          ((same id).0 among, refl, refl, refl),
    )) c.choice_set.ensures
