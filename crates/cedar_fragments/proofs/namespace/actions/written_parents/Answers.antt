use Rattle.std.proofs.Common.{ap, map}
use Rattle.cedar_fragments.proofs.namespace.actions.written_parents.Goals as goal
use Rattle.cedar_fragments.specs.Words.{RawName, fragment_parent, raw_reference}
use Rattle.cedar_name_resolution.proofs.OneMore.{one_more}

-- at first no parent is taken
pub loop-parent-init : goal.loop-parent-init
loop-parent-init c namespace = ap (map (fragment_parent RawName (raw_reference namespace))) c.in_ok-parents.ensures.items

-- one more is
pub loop-parent-preserved : goal.loop-parent-preserved
loop-parent-preserved c namespace =
    one_more _ _ c.loop-parent.parents.items _ c.loop-parent.yielded _ _ c.in_ok-push.ensures.items
    (c.loop-parent.invariant namespace) (c.in_ok-written_parent.ensures namespace)
