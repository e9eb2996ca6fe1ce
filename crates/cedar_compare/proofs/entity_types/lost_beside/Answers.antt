use Rattle.std.proofs.Common.{Option, subst, sym}
use Rattle.std.specs.Option.{option_map}
use Rattle.cedar_compare.proofs.LostLemmas.{tags_loss}
use Rattle.cedar_compare.proofs.entity_types.lost_beside.Goals as goal
use Rattle.cedar_compare.specs.Words.{IsTagOutside, IsTypeLoss, OutsideBetween, PlainCause, between_of, entity_lost, kind_tags, named_values, new_of, old_of, plain_action_entity, plain_type, type_name}

pub returns-in-Some : goal.returns-in-Some
returns-in-Some c =
    let versions = c.args.versions.now in
    let extensions = versions.extensions.now in
    let old = plain_type c.args.old.now in
    let new = plain_type c.args.new.now in
    let tag = subst (λ (o : Option OutsideBetween).
    IsTagOutside extensions (old_of versions) (new_of versions) (kind_tags old.kind) (kind_tags new.kind) (option_map between_of o))
    c.in-Some.is c.in_ok-found.ensures in
    let witness = plain_action_entity c.in_ok-witness.witness in
    let P : PlainCause → Type 0 = λ cause.
    IsTypeLoss extensions (old_of versions) (new_of versions) (type_name c.args.name.now) (entity_lost witness cause) in
    subst P (sym c.part_cause-cause.ensures)
    (tags_loss extensions (old_of versions) (new_of versions) (type_name c.args.name.now) old c.requires.old new c.requires.new
    c.requires.versions.new_keyed c.requires.standard c.requires.new_standard
    witness (named_values c.in_ok-attributes.attributes) (between_of c.in-Some.found) c.in_ok-witness.ensures c.in_ok-attributes.ensures tag)
