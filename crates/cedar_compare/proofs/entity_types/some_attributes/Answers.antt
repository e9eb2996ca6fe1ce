use Rattle.std.proofs.Common.{subst, sym}
use Rattle.cedar_compare.proofs.SampledLemmas.{attributes_sampled}
use Rattle.cedar_compare.proofs.entity_types.some_attributes.Goals as goal
use Rattle.cedar_compare.specs.Words.{AreInhabitedWith, Exists, FieldsHaveUids, old_of, plain_type, type_name, value_trees}

pub existing_attributes-requires : goal.existing_attributes-requires
existing_attributes-requires c =
    let extensions = c.args.versions.now.extensions.now in
    let samples = value_trees c.args.versions.now.samples.now in
    let old = old_of c.args.versions.now in
    let sampled = attributes_sampled extensions samples old (type_name c.args.name.now) (plain_type c.args.old.now)
    c.requires.versions.sampled c.requires.old c.requires.standard in
    record {
      sampled = subst (AreInhabitedWith extensions samples) (sym c.attributes.ensures.fields) sampled.inhabited;
      uids = subst (FieldsHaveUids (Exists old)) (sym c.attributes.ensures.fields) sampled.uids;
    }
