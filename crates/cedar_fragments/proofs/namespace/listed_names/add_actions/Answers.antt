use Rattle.std.proofs.Common.{map}
use Rattle.cedar_fragments.proofs.namespace.listed_names.add_actions.Goals as goal
use Rattle.cedar_fragments.specs.Words.{ActionDef, PlainUid, uid_of}
use Rattle.cedar_name_resolution.proofs.SetLemmas.{HasAlso-next, HasAlso-all, HasAlso-pushed}

pub loop-def-preserved : goal.loop-def-preserved
loop-def-preserved g c =
    let f : ActionDef g.row.N.Denot g.row.A.Denot → PlainUid = λ def. uid_of def.uid in
    HasAlso-next f (map uid_of c.args.uids.now.items) c.deref-def-items.result.now _ _ c.loop-def.def-index c.def-item.result _
    c.loop-def-test.true c.def-item.is c.in_ok-clone.ensures.uid c.loop-def.invariant (HasAlso-pushed uid_of _ _ _ c.in_ok-push.ensures.items)

pub returns : goal.returns
returns g c =
    let f : ActionDef g.row.N.Denot g.row.A.Denot → PlainUid = λ def. uid_of def.uid in
    rw c.deref-def-items.ensures.value at
    (HasAlso-all f (map uid_of c.args.uids.now.items) c.deref-def-items.result.now _ c.loop-def.def-index
    c.loop-def-test.false c.loop-def.invariant)
