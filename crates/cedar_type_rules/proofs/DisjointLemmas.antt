-- Disjoint types have no value in common.
use Rattle.std.proofs.Common.{◌≡◌, ◌↔◌, List, Some, subst}
use Rattle.cedar_type_rules.specs.Words.{AreDisjoint, AreDisjointTypes, DisjointTypesShareNoValue, PlainName, Ty, kind_names, uid_value, union_of}

-- no value has two disjoint types
pub disjoint_apart : DisjointTypesShareNoValue
disjoint_apart extensions (uid_value uid) (union_of a) (union_of b) apart first second = apart uid.ty first second
disjoint_apart extensions value (union_of a) (union_of b) apart first second = elim first [ ]
disjoint_apart extensions value a b apart first second = elim apart [ ]

-- two unions are disjoint exactly where they have no name in common
pub disjoint-unions : (a b : Ty) (names others : List PlainName) → kind_names a ≡ Some names → kind_names b ≡ Some others
    → AreDisjoint names others ↔ AreDisjointTypes a b
disjoint-unions (union_of own) (union_of other) names others is also =
    let first : own ≡ names = cc in
    let second : other ≡ others = cc in
    rw (← first) (subst (λ each. AreDisjoint own each ↔ AreDisjoint own other) second (λ apart. apart, λ apart. apart))
disjoint-unions _ b names others is also = absurd cc
