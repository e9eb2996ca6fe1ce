-- Values that separate two types.
use Rattle.std.proofs.Common.{◌≡◌, sym, ap, ◌∙◌, Bool, None}
use Rattle.cedar_counterexample.specs.Words.{Extensions, Fields, Has, IsCounterexample, IsValue, Tree, Ty, ValuesIncluded, any_set, attribute_step, attributes_step, fold-roll-Type, no_tree, roll-Type, set_of, set_value, tree, ty_of, type_step}
use Rattle.cedar_types.specs.declared.types.Type.TheOpen as layer
use Rattle.cedar_types.specs.declared.types.Type.TheVariants as type

-- where a value separates two types, not each value of the one is one of the other
pub separated_outside : (extensions : Extensions) (a b : Ty) (value : Tree) → IsCounterexample extensions a b value → ¬ ValuesIncluded extensions a b
separated_outside extensions a b value separates within = separates.1 (within value separates.0.0 separates.0.1)

-- the set type without an element type stands for the any-set
pub ty_of-any_set : ty_of (type.Set None) ≡ any_set
ty_of-any_set =
    ap ty_of (sym (type.rolls-Set None)) ∙ (let e : ty_of (roll-Type (layer.Set None)) ≡ any_set =
    fold-roll-Type Ty (Bool × Ty) Fields type_step attribute_step attributes_step (layer.Set None) in
    e)

-- the set of a value that a type hasn't separates the any-set from the sets of the type
pub any_set_separates : (extensions : Extensions) (value : Tree) (b : Ty) → IsValue value → ¬ Has extensions value b
    → IsCounterexample extensions any_set (set_of b) (set_value (tree value no_tree))
any_set_separates extensions value b real lacks = (((real, tt), tt), λ has. lacks has.0)
