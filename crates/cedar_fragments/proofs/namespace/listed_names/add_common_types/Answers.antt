use Rattle.std.proofs.Common.{map}
use Rattle.cedar_fragments.proofs.namespace.listed_names.add_common_types.Goals as goal
use Rattle.cedar_fragments.specs.Words.{CommonTypeDef, PlainName, name_of}
use Rattle.cedar_name_resolution.proofs.SetLemmas.{HasAlso-next, HasAlso-all, HasAlso-pushed}

pub loop-def-preserved : goal.loop-def-preserved
loop-def-preserved g c =
    let f : CommonTypeDef g.row.N.Denot → PlainName = λ def. name_of def.name in
    HasAlso-next f (map name_of c.args.names.now.items) c.deref-def-items.result.now _ _ c.loop-def.def-index c.def-item.result _
    c.loop-def-test.true c.def-item.is c.in_ok-clone.ensures.name c.loop-def.invariant (HasAlso-pushed name_of _ _ _ c.in_ok-push.ensures.items)

pub returns : goal.returns
returns g c =
    let f : CommonTypeDef g.row.N.Denot → PlainName = λ def. name_of def.name in
    rw c.deref-def-items.ensures.value at
    (HasAlso-all f (map name_of c.args.names.now.items) c.deref-def-items.result.now _ c.loop-def.def-index
    c.loop-def-test.false c.loop-def.invariant)
