use Rattle.std.proofs.Common.{◌≡◌, ◌⊎◌, ◌↔◌, true, false, drop}
use Rattle.std.specs.List.{AllByRecursion}
use Rattle.cedar_types.proofs.consistent.may_lack_all.Given as goal
use Rattle.cedar_types.specs.Attributes.{plain_attributes}

abbrev pub invariant-loop-attribute : goal.invariant-loop-attribute
invariant-loop-attribute l =
    AllByRecursion (λ item. (item.1.0 ≡ false) ⊎ (l.is_open ≡ true)) (plain_attributes (drop l.attribute-index l.attributes))
    ↔ AllByRecursion (λ item. (item.1.0 ≡ false) ⊎ (l.is_open ≡ true)) (plain_attributes l.attributes)
