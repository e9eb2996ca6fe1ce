use Rattle.std.proofs.Common.{sym}
use Rattle.cedar_compare.proofs.SampledLemmas.{tags_sampled}
use Rattle.cedar_compare.proofs.TagLemmas.{tags_answered}
use Rattle.cedar_compare.proofs.entity_types.tag_outside.Goals as goal
use Rattle.cedar_compare.specs.Words.{kind_tags, new_of, old_of, plain_type, ty_of, type_name, value_trees}

pub outside_between-requires : goal.outside_between-requires
outside_between-requires c =
    let versions = c.args.versions.now in
    let sampled = tags_sampled versions.extensions.now (value_trees versions.samples.now) (old_of versions) (type_name c.args.name.now)
    (plain_type c.args.old.now) c.requires.versions.sampled c.requires.old (ty_of c.in-Some.ty.now) (sym c.in-Some.ensures.ty) in
    record { sampled = sampled.inhabited; uids = sampled.uids }

pub existing_value-requires : goal.existing_value-requires
existing_value-requires c =
    let versions = c.args.versions.now in
    let sampled = tags_sampled versions.extensions.now (value_trees versions.samples.now) (old_of versions) (type_name c.args.name.now)
    (plain_type c.args.old.now) c.requires.versions.sampled c.requires.old (ty_of c.in-Some.ty.now) (sym c.in-Some.ensures.ty) in
    record { sampled = sampled.inhabited; uids = sampled.uids }

pub returns-in-Some-tag_type : goal.returns-in-Some-tag_type
returns-in-Some-tag_type c =
    tags_answered c.args.versions.now.extensions.now (old_of c.args.versions.now) (new_of c.args.versions.now)
    (kind_tags (plain_type c.args.old.now).kind) (kind_tags (plain_type c.args.new.now).kind)
    (ty_of c.in-Some.ty.now) (ty_of c.in-Some-tag_type.other.now) c.in-Some.ensures.ty c.in-Some-tag_type.ensures.ty
    c.outside_between.result c.outside_between.ensures.none c.outside_between.ensures.some
