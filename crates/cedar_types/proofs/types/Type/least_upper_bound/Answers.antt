use Rattle.std.proofs.Common.{refl}
use Rattle.cedar_types.proofs.KindJoins.{upper_joins}
use Rattle.cedar_types.proofs.types.Type.least_upper_bound.Goals as goal
use Rattle.cedar_types.specs.Meaning.{ty_of}

pub returns-then-is_subtype-clause-join : goal.returns-then-is_subtype-clause-join
returns-then-is_subtype-clause-join c =
    (upper_joins c.args.mode (ty_of c.args.a.now) (ty_of c.args.b.now) c.in_ok-clone.field-0 c.in_ok-clone.field-0 refl
    c.in_ok-clone.ensures.same (c.is_subtype.ensures.0 c.if-is_subtype.true)).0

pub returns-then-is_subtype-2-clause-join : goal.returns-then-is_subtype-2-clause-join
returns-then-is_subtype-2-clause-join c =
    (upper_joins c.args.mode (ty_of c.args.b.now) (ty_of c.args.a.now) c.in_ok-clone-2.field-0 c.in_ok-clone-2.field-0 refl
    c.in_ok-clone-2.ensures.same (c.is_subtype-2.ensures.0 c.if-is_subtype-2.true)).1
