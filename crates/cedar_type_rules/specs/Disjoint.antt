use Rattle.cedar_ast.specs.Tree.{Tree}
use Rattle.cedar_ast.specs.declared.extension.Extensions.{Extensions}
use Rattle.cedar_type_rules.specs.EntityUnion.{AreDisjoint}
use Rattle.cedar_type_rules.specs.Has.{Has}
use Rattle.cedar_type_rules.specs.Ty.{Ty, union_of}

-- disjoint types are two unions without an entity type in common
abbrev pub AreDisjointTypes : Ty → Ty → Type 0
AreDisjointTypes (union_of a) (union_of b) = AreDisjoint a b
AreDisjointTypes _ _ = ⊥

-- no value has two disjoint types
abbrev pub DisjointTypesShareNoValue : Type 0
DisjointTypesShareNoValue =
    (extensions : Extensions) (value : Tree) (a b : Ty) → AreDisjointTypes a b
    → Has extensions value a → ¬ Has extensions value b
