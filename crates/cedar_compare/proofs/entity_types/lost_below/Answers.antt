use Rattle.std.proofs.Common.{None, Some, ⊎_elim}
use Rattle.cedar_ast.proofs.ValueCopies.{uid_real}
use Rattle.cedar_compare.proofs.AncestorLemmas.{entity_walk}
use Rattle.cedar_compare.proofs.LostLemmas.{below_loss}
use Rattle.cedar_compare.proofs.UpperLemmas.{upper_found}
use Rattle.cedar_compare.proofs.entity_types.lost_below.Goals as goal
use Rattle.cedar_compare.specs.Words.{named_values, new_of, old_of, plain_action_entity, plain_cause, plain_type, type_name, uid_of}

pub returns-in_default : goal.returns-in_default
returns-in_default c = λ upper above.
    let versions = c.args.versions.now in
    ⊎_elim (λ none. absurd none) (λ there. there)
    (upper_found (entity_walk (old_of versions) (new_of versions)) c.args.ancestors.now c.args.name.now None c.requires.ancestors c.in_default.ensures.value upper above)

pub upper_cause-requires-clause-old : goal.upper_cause-requires-clause-old
upper_cause-requires-clause-old c =
    let versions = c.args.versions.now in
    (upper_found (entity_walk (old_of versions) (new_of versions)) c.args.ancestors.now c.args.name.now (Some c.in-Some.upper.now) c.requires.ancestors c.in-Some.ensures.value).0

pub upper_cause-requires-clause-new : goal.upper_cause-requires-clause-new
upper_cause-requires-clause-new c =
    let versions = c.args.versions.now in
    (upper_found (entity_walk (old_of versions) (new_of versions)) c.args.ancestors.now c.args.name.now (Some c.in-Some.upper.now) c.requires.ancestors c.in-Some.ensures.value).1

pub returns : goal.returns
returns c =
    let versions = c.args.versions.now in
    let upper = c.in-Some.upper.now in
    let found = upper_found (entity_walk (old_of versions) (new_of versions)) c.args.ancestors.now c.args.name.now (Some upper) c.requires.ancestors c.in-Some.ensures.value in
    below_loss versions.extensions.now (old_of versions) (new_of versions) (type_name c.args.name.now) (plain_type c.args.old.now) c.requires.old
    (plain_action_entity c.in_ok-witness.witness) (named_values c.in_ok-attributes.attributes) (uid_of upper) (plain_cause c.in_ok-cause.cause)
    c.requires.standard c.in_ok-witness.ensures c.in_ok-attributes.ensures (uid_real upper) found.0 found.1 c.in_ok-cause.ensures
