use Rattle.std.specs.Prelude.{◌≡◌}
use Rattle.cedar_ast.specs.Words.{IsReserved, IsUnqualified, PlainName, PlainUid}

-- the one type would shadow the other: it is unqualified, and the other is qualified, isn't
-- reserved and has its base name (RFC 70)
abbrev pub ShadowsType : PlainName → PlainName → Type 0
ShadowsType plain qualified =
    IsUnqualified plain × ¬ IsUnqualified qualified × ¬ IsReserved qualified
    × (plain.base ≡ qualified.base)

-- the one action would shadow the other: its type is unqualified, and the other's is qualified, and
-- they have one id (RFC 70)
abbrev pub ShadowsAction : PlainUid → PlainUid → Type 0
ShadowsAction plain qualified =
    IsUnqualified plain.ty × ¬ IsUnqualified qualified.ty × (plain.eid ≡ qualified.eid)
