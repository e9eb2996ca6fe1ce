-- Steps down two types to where they part.
use Rattle.std.specs.Prelude.{◌≡◌, ◌⊎◌, Bool, true, List, [], ◌∷◌, Contains, map, reverse, string_bytes}
use Rattle.std.specs.declared.alloc.Global.{Global}
use Rattle.std.specs.declared.vec.Vec.{Vec}
use Rattle.cedar_ast.specs.Text.{Text}
use Rattle.cedar_ast.specs.declared.extension.Extensions.{Extensions}
use Rattle.cedar_counterexample.specs.declared.steps.Step.{Step}
use Rattle.cedar_counterexample.specs.declared.steps.Step.TheVariants as step
use Rattle.cedar_type_rules.specs.Words.{Fields, HasField, Ty, ValuesIncluded, field_names, record_of, set_of}
use Rattle.cedar_type_rules.specs.declared.open_tag.OpenTag.{OpenTag}
use Rattle.cedar_type_rules.specs.declared.open_tag.OpenTag.TheVariants.{ClosedAttributes, OpenAttributes}

-- a step down a type as plain data: to the attribute of a name, or to the elements
pub data PlainStep : Type 0 where
  attribute_step : Text → PlainStep
  element_step : PlainStep

-- what a step stands for
abbrev pub step_of : Step → PlainStep
step_of (step.Attribute name) = attribute_step (string_bytes name)
step_of step.Element = element_step

-- what some steps stand for, in their order
abbrev pub steps_of : Vec Step Global → List PlainStep
steps_of steps = map step_of steps.items

-- what steps stand for that were noted on the way up, the last one first
abbrev pub noted_steps : Vec Step Global → List PlainStep
noted_steps steps = map step_of (reverse steps.items)

-- the upper record requires an attribute that the lower doesn't
abbrev pub OnlyUpperRequires : Fields → Fields → Text → Type 0
OnlyUpperRequires lower upper name =
    ((ty : Ty) × HasField upper name true ty) × ((own : Ty) → ¬ HasField lower name true own)

-- the lower record has an attribute that the upper, which is closed, lacks
abbrev pub OnlyLowerHas : Fields → Fields → OpenTag → Text → Type 0
OnlyLowerHas lower upper upper_openness name =
    Contains (field_names lower) name × (upper_openness ≡ ClosedAttributes)
    × ¬ Contains (field_names upper) name

-- the upper record has an attribute that the lower, which is open, lacks
abbrev pub OnlyUpperHas : Fields → OpenTag → Fields → Text → Type 0
OnlyUpperHas lower openness upper name =
    Contains (field_names upper) name × (openness ≡ OpenAttributes)
    × ¬ Contains (field_names lower) name

-- two records differ in an attribute's name itself: only one of them requires it or has it
abbrev pub AttributeDiffers : Fields → OpenTag → Fields → OpenTag → Text → Type 0
AttributeDiffers lower openness upper upper_openness name =
    OnlyUpperRequires lower upper name
    ⊎ (OnlyLowerHas lower upper upper_openness name ⊎ OnlyUpperHas lower openness upper name)

-- two types part at the end of some steps: after them both have a type there, and not each value of
-- the one is a value of the other; or the last of them is to an attribute, in whose name itself two
-- records differ
abbrev pub IsOutsideAt : Extensions → List PlainStep → Ty → Ty → Type 0
IsOutsideAt extensions [] lower upper = ¬ ValuesIncluded extensions lower upper
IsOutsideAt extensions (element_step ∷ steps) (set_of lower) (set_of upper) =
    IsOutsideAt extensions steps lower upper
IsOutsideAt extensions (attribute_step name ∷ steps) (record_of lower openness)
    (record_of upper upper_openness) =
    ((own_required : Bool)
    × (own : Ty)
    × (required : Bool)
    × (ty : Ty)
    × HasField lower name own_required own
    × HasField upper name required ty
    × IsOutsideAt extensions steps own ty)
    ⊎ ((steps ≡ []) × AttributeDiffers lower openness upper upper_openness name)
IsOutsideAt _ _ _ _ = ⊥

-- two types share no parts to step down to: not both are sets of elements, and not both records
abbrev pub ShareNoParts : Ty → Ty → Type 0
ShareNoParts (set_of lower) (set_of upper) = ⊥
ShareNoParts (record_of lower openness) (record_of upper upper_openness) = ⊥
ShareNoParts _ _ = Unit {0}
