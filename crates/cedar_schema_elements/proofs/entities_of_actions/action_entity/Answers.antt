use Rattle.std.proofs.Common.{◌↔◌, map, ap, sym, ◌∙◌, Contains}
use Rattle.std.specs.BTreeSet.{BTreeSet}
use Rattle.cedar_ast.proofs.Uids.{entity_uid_ord-Equal}
use Rattle.cedar_schema_elements.proofs.AncestorLemmas.{none_above, others_stay, some_above}
use Rattle.cedar_schema_elements.proofs.EntityLemmas.{no_values}
use Rattle.cedar_schema_elements.proofs.KeyLemmas.{cmp}
use Rattle.cedar_schema_elements.proofs.entities_of_actions.action_entity.Goals as goal
use Rattle.cedar_schema_elements.proofs.entities_of_actions.action_entity.Goals.{in-Some, in-None}
use Rattle.cedar_schema_elements.specs.Words.{EntityUID, IsAncestor, PlainUid, named_values, uid_of, upper_set}

pub returns-clause-entity : goal.returns-clause-entity
returns-clause-entity c =
    let before = c.args.ancestors.now in
    let uid = c.args.uid.now in
    let HoldsAncestors : BTreeSet EntityUID → Type 0 = λ set. (above : PlainUid) → IsAncestor cmp uid_of before uid above ↔ Contains (map uid_of set.keys) above in
    let stands : HoldsAncestors c.match-remove.ancestors =
    elim c.match-remove.branch [
      | in-Some w ↦ rw w.ancestors-is (some_above uid_of (upper_set cmp before uid) _ (sym c.remove.ensures.value ∙ w.in-Some.is))
      | in-None w ↦
          rw w.ancestors-is (none_above uid_of (upper_set cmp before uid) w.new-ancestors.result.keys (sym c.remove.ensures.value ∙ w.in-None.is)
          w.new-ancestors.ensures.empty)
    ] in
    record {
      uid = c.new-3.ensures.uid ∙ c.in_ok-clone.ensures.uid;
      attributes = ap named_values c.new-3.ensures.attrs ∙ no_values c.new.result c.new.ensures.empty;
      tags = ap named_values c.new-3.ensures.tags ∙ no_values c.new-2.result c.new-2.ensures.empty;
      ancestors = rw c.new-3.ensures.ancestors (λ above. ((stands above).1, (stands above).0));
    }

pub returns-clause-others : goal.returns-clause-others
returns-clause-others c =
    others_stay cmp uid_of entity_uid_ord-Equal c.args.ancestors.now c.remove.new.self c.args.uid.now c.remove.ensures.updates.2
