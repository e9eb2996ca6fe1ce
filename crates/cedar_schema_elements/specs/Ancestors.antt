-- What stands above the nodes of a hierarchy, each set under the key of the lower node.
use Rattle.std.specs.BTreeMap.{BTreeMap, get}
use Rattle.std.specs.BTreeSet.{BTreeSet}
use Rattle.std.specs.Prelude.{◌≡◌, List, Option, Contains, IsSomeAnd, map}
use Rattle.std.specs.declared.cmp.Ordering.{Ordering}

-- the set under a key
abbrev pub upper_set : {K : Type 0} → (K → K → Ordering) → BTreeMap K (BTreeSet K) → K
    → Option (BTreeSet K)
upper_set cmp ancestors lower = get cmp ancestors lower

-- what the name stands for is above the key
abbrev pub IsAncestor : {K P : Type 0} → (K → K → Ordering) → (K → P) → BTreeMap K (BTreeSet K)
    → K → P → Type 0
IsAncestor cmp name ancestors lower upper =
    IsSomeAnd (upper_set cmp ancestors lower) (λ set. Contains (map name set.keys) upper)

-- some node of the name is one of which the fact holds
abbrev pub HasNode : {K V P : Type 0} → (K → P) → (V → Type 0) → List (K × V) → P → Type 0
HasNode {K = K} {V = V} name Holds nodes key =
    (entry : K × V) × Contains nodes entry × (name entry.0 ≡ key) × Holds entry.1

-- some node of the one name lists the other name among those below it
abbrev pub ListsBelow : {K V P : Type 0} → (K → P) → (V → List P) → List (K × V) → P → P → Type 0
ListsBelow name below nodes lower upper =
    HasNode name (λ node. Contains (below node) lower) nodes upper
