use Rattle.std.proofs.Common.{map, subst, sym, ap}
use Rattle.cedar_schema_text_layout.specs.Relaid.{EachSpelled}
use Rattle.cedar_schema_text_layout.proofs.Printed.{spelled_each}
use Rattle.cedar_schema_text_layout.proofs.laying_out.lay_out.Goals as goal
use Rattle.cedar_schema_tokens.specs.Spelled.{spelled_of}

pub printed-requires : goal.printed-requires
printed-requires c =
    let given : EachSpelled (map spelled_of c.in_ok-pieces.pieces.items) = spelled_each (map spelled_of c.in_ok-pieces.pieces.items) c.args.text.now c.in_ok-pieces.ensures.found in
    let lent : EachSpelled (map spelled_of c.deref.result.now) = subst (λ all. EachSpelled (map spelled_of all)) (sym c.deref.ensures.value) given in
    subst (λ all. EachSpelled (map spelled_of all)) (sym c.deref-in-Ok.ensures.value) (c.in-Ok.ensures.spelled lent)
