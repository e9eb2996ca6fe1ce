use Rattle.std.proofs.Common.{sym, ◌∙◌, map}
use Rattle.std.proofs.lemmas.Simd.{map-map}
use Rattle.cedar_name_resolution.proofs.SetLemmas.{added_none, added_more, added_all}
use Rattle.cedar_name_resolution.proofs.defs.all_defs.AllDefs.with_action_types.Goals as goal
use Rattle.cedar_name_resolution.specs.Words.{name_of, uid_of}

pub loop-uid-init : goal.loop-uid-init
loop-uid-init c = added_none _ _ _ _ (sym c.into_iter-uid-iterator.ensures.into_iter_gives.0)

pub loop-uid-preserved : goal.loop-uid-preserved
loop-uid-preserved c =
    added_more _ _ _ _ c.next.new.self _ _ c.in-Some.uid.now _ c.in-Some.ensures.steps
    (c.into_internal-name.ensures.name ∙ (c.into_name.ensures.name ∙ (c.in_ok-clone.ensures.name ∙ c.entity_type.ensures.name)))
    c.in_ok-add_name.ensures.added c.loop-uid.invariant

pub returns-clause-entities : goal.returns-clause-entities
returns-clause-entities c =
    rw (map-map _ _ c.args.self.action_defs.keys)
    (added_all (λ uid. (uid_of uid).ty) (map name_of c.args.self.entity_defs.keys) c.args.self.action_defs.keys c.loop-uid.uid-iterator _ c.in-None.ensures.steps.0 c.loop-uid.invariant)
