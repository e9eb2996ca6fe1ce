-- Records that are elaborated are closed, and entity types as they are elaborated have no
-- descendants.
use Rattle.std.proofs.Common.{◌≡◌, List, [], ◌∷◌, refl, arith}
use Rattle.cedar_builder.specs.Words.{ClosedAttributes, Defined, ElaboratesTo, Expr, Fields, OpenTag, PlainName, SameItems, as_common, as_record, record_of}

-- what is elaborated as a record type is elaborated as a closed one
pub closed_elaborated : {defined : Defined} {expr : Expr} {fields : Fields} {openness : OpenTag}
    → ElaboratesTo defined expr (record_of fields openness) → ElaboratesTo defined expr (record_of fields ClosedAttributes)
closed_elaborated (as_record members) = as_record members
closed_elaborated (as_common reference name body resolves is_common elaborated) =
    as_common reference name body resolves is_common (closed_elaborated elaborated)

-- what has the same items as the empty list is empty
pub SameItems-none : (names : List PlainName) → SameItems names [] → names ≡ []
SameItems-none [] same = refl
SameItems-none (name ∷ names) same = absurd (omega (arith, ((same name).0 (0, omega arith, refl)).1))
