use Rattle.std.proofs.Common.{Contains, ap, subst, sym, ◌∙◌}
use Rattle.std.proofs.lemmas.Bool.{false≢true}
use Rattle.cedar_compare.proofs.BareLemmas.{of_its_kind}
use Rattle.cedar_compare.proofs.LostLemmas.{of_parts, parts_of}
use Rattle.cedar_compare.proofs.NoTags.{no_tags}
use Rattle.cedar_compare.proofs.bare.is_bare_of_type.Goals as goal
use Rattle.cedar_compare.specs.Words.{AreTagsOf, EntityTypeKind, Entries, Fields, Has, IsEntityOfKind, IsStandard, NamesWhatExists, PlainUid, choice_texts, kind_fields, kind_openness, kind_tags, map_value, no_entry, plain_action_entity, plain_kind, plain_type, record_of, schema_of}

-- an entity whose entity type the schema lacks is of none
pub returns-in_default : goal.returns-in_default
returns-in_default c = λ extensions.
    let schema = schema_of c.args.schema.now in
    let typed = c.entity_type.ensures.name ∙ ap (λ (u : PlainUid). u.ty) c.uid.ensures.uid in (
      λ wrong. absurd (false≢true wrong),
      λ (ty, among, of). absurd (c.in_default.ensures ty (subst (λ n. Contains schema.entity_types (n, ty)) (sym typed) among)),
    )

-- no attribute is required, so the entity is of the type just where its ancestors may stand above
-- it
pub returns-then-requires_nothing : goal.returns-then-requires_nothing
returns-then-requires_nothing c = λ extensions.
    let schema = schema_of c.args.schema.now in
    let it = plain_action_entity c.args.entity.now in
    let ty = plain_type c.in-Some.ty.now in
    let typed = c.entity_type.ensures.name ∙ ap (λ (u : PlainUid). u.ty) c.uid.ensures.uid in
    let there = subst (λ n. Contains schema.entity_types (n, ty)) typed c.in-Some.ensures in
    let standard : IsStandard ty.kind = subst IsStandard (sym (ap plain_kind c.in-Standard.is)) tt in
    let openness = kind_openness ty.kind in
    let has = subst (λ (fields : Fields). Has extensions (map_value no_entry) (record_of fields openness)) c.attributes.ensures.fields
    ((c.requires_nothing.ensures extensions openness).0 c.if-requires_nothing.true) in (
      λ met. (
        ty,
        there,
        of_parts extensions schema ty.kind it standard
            (subst (λ (e : Entries). Has extensions (map_value e) (record_of (kind_fields ty.kind) openness)) (sym c.requires.attributes) has)
            (subst (AreTagsOf extensions (kind_tags ty.kind)) (sym c.requires.tags) (no_tags extensions (kind_tags ty.kind)))
            (record {
              attributes = subst (λ (e : Entries). NamesWhatExists schema (map_value e)) (sym c.requires.attributes) tt;
              tags = subst (λ (e : Entries). NamesWhatExists schema (map_value e)) (sym c.requires.tags) tt;
            })
            (c.may_all_stand_above.ensures.0 met),
      ),
      λ of. c.may_all_stand_above.ensures.1
          (parts_of extensions schema ty.kind it standard (of_its_kind extensions schema c.requires.keyed it ty there of)).3,
    )

-- an attribute is required, and the entity has none, so it isn't of the type
pub returns-else-requires_nothing : goal.returns-else-requires_nothing
returns-else-requires_nothing c = λ extensions.
    let schema = schema_of c.args.schema.now in
    let it = plain_action_entity c.args.entity.now in
    let ty = plain_type c.in-Some.ty.now in
    let typed = c.entity_type.ensures.name ∙ ap (λ (u : PlainUid). u.ty) c.uid.ensures.uid in
    let there = subst (λ n. Contains schema.entity_types (n, ty)) typed c.in-Some.ensures in
    let standard : IsStandard ty.kind = subst IsStandard (sym (ap plain_kind c.in-Standard.is)) tt in
    let openness = kind_openness ty.kind in (
      λ met. absurd (false≢true (sym c.if-requires_nothing.false ∙ met)),
      λ of. (c.requires_nothing.ensures extensions openness).1
          (subst (λ (fields : Fields). Has extensions (map_value no_entry) (record_of fields openness)) (sym c.attributes.ensures.fields)
          (subst (λ (e : Entries). Has extensions (map_value e) (record_of (kind_fields ty.kind) openness)) c.requires.attributes
          (parts_of extensions schema ty.kind it standard (of_its_kind extensions schema c.requires.keyed it ty there of)).0)),
    )

-- a choice of an enumerated type is an entity of it just where it has no ancestors
pub returns-then-has_choice : goal.returns-then-has_choice
returns-then-has_choice c = λ extensions.
    let schema = schema_of c.args.schema.now in
    let it = plain_action_entity c.args.entity.now in
    let ty = plain_type c.in-Some.ty.now in
    let typed = c.entity_type.ensures.name ∙ ap (λ (u : PlainUid). u.ty) c.uid.ensures.uid in
    let there = subst (λ n. Contains schema.entity_types (n, ty)) typed c.in-Some.ensures in
    let kind = ap plain_kind c.in-Enum.is in
    let eid = c.eid.ensures ∙ ap (λ (u : PlainUid). u.eid) c.uid-in-Enum.ensures.uid in
    let among = subst (Contains (choice_texts c.in-Enum.choices)) eid (c.has_choice.ensures.0 c.if-has_choice.true) in (
      λ met. (
        ty,
        there,
        subst (λ (k : EntityTypeKind). IsEntityOfKind extensions schema k it) (sym kind)
            (among, c.requires.attributes, c.requires.tags, c.is_without_ancestors.ensures.0 met),
      ),
      λ of. c.is_without_ancestors.ensures.1
          (subst (λ (k : EntityTypeKind). IsEntityOfKind extensions schema k it) kind (of_its_kind extensions schema c.requires.keyed it ty there of)).3,
    )

-- an id that is no choice of an enumerated type is that of none of its entities
pub returns-else-has_choice : goal.returns-else-has_choice
returns-else-has_choice c = λ extensions.
    let schema = schema_of c.args.schema.now in
    let it = plain_action_entity c.args.entity.now in
    let ty = plain_type c.in-Some.ty.now in
    let typed = c.entity_type.ensures.name ∙ ap (λ (u : PlainUid). u.ty) c.uid.ensures.uid in
    let there = subst (λ n. Contains schema.entity_types (n, ty)) typed c.in-Some.ensures in
    let kind = ap plain_kind c.in-Enum.is in
    let eid = c.eid.ensures ∙ ap (λ (u : PlainUid). u.eid) c.uid-in-Enum.ensures.uid in (
      λ met. absurd (false≢true (sym c.if-has_choice.false ∙ met)),
      λ of. c.has_choice.ensures.1 (subst (Contains (choice_texts c.in-Enum.choices)) (sym eid)
          (subst (λ (k : EntityTypeKind). IsEntityOfKind extensions schema k it) kind (of_its_kind extensions schema c.requires.keyed it ty there of)).0),
    )

-- a type that is declared elsewhere has no entities here
pub returns-in-External : goal.returns-in-External
returns-in-External c = λ extensions.
    let schema = schema_of c.args.schema.now in
    let it = plain_action_entity c.args.entity.now in
    let ty = plain_type c.in-Some.ty.now in
    let typed = c.entity_type.ensures.name ∙ ap (λ (u : PlainUid). u.ty) c.uid.ensures.uid in
    let there = subst (λ n. Contains schema.entity_types (n, ty)) typed c.in-Some.ensures in (
      λ wrong. absurd (false≢true wrong),
      λ of. absurd (subst (λ (k : EntityTypeKind). IsEntityOfKind extensions schema k it) (ap plain_kind c.in-External.is)
          (of_its_kind extensions schema c.requires.keyed it ty there of)),
    )
