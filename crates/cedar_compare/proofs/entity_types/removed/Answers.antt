use Rattle.cedar_compare.proofs.LostLemmas.{removed_loss}
use Rattle.cedar_compare.proofs.entity_types.removed.Goals as goal
use Rattle.cedar_compare.specs.Words.{named_values, new_of, old_of, plain_action_entity, plain_type, type_name}

pub returns : goal.returns
returns c =
    let versions = c.args.versions.now in
    removed_loss versions.extensions.now (old_of versions) (new_of versions) (type_name c.args.name.now) (plain_type c.args.old.now) c.requires.old
    (plain_action_entity c.in_ok-entity_with.field-0) (named_values c.in_ok-attributes.attributes) c.requires.versions.old_keyed c.requires.standard
    c.in_ok-entity_with.ensures c.in_ok-attributes.ensures c.requires.lacking
