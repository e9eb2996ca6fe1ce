-- Values that one type has and another hasn't, between two versions of a schema.
use Rattle.std.specs.Option.{option_map}
use Rattle.std.specs.Prelude.{List, Option, Some, None}
use Rattle.cedar_ast.specs.Words.{IsValue, PlainUid, Tree, map_value, uid_of}
use Rattle.cedar_ast.specs.declared.extension.Extensions.{Extensions}
use Rattle.cedar_counterexample.specs.LostIds.{IsLostUid, MayBeNamedAt}
use Rattle.cedar_counterexample.specs.Steps.{IsOutsideAt, PlainStep, steps_of}
use Rattle.cedar_counterexample.specs.ValueEntries.{value_entries}
use Rattle.cedar_counterexample.specs.declared.between.AttributesOutsideBetween.{AttributesOutsideBetween}
use Rattle.cedar_counterexample.specs.declared.between.OutsideBetween.{OutsideBetween}
use Rattle.cedar_entities.specs.Words.{NamesOnly, ValuesKept}
use Rattle.cedar_type_rules.specs.Words.{Has, Ty, ValuesIncluded}
use Rattle.cedar_types.specs.Samples.{value_tree}

-- a value with the steps to where two types part, or with those to a uid that is lost
pub record PlainBetween : Type 0 where
  pub value : Tree
  pub steps : List PlainStep
  pub lost : Option PlainUid

-- what is found between two versions, as plain data
abbrev pub between_of : OutsideBetween → PlainBetween
between_of it = record {
  value = value_tree it.value;
  steps = steps_of it.steps;
  lost = option_map uid_of it.lost;
}

-- the same of the values of a record
abbrev pub attributes_between_of : AttributesOutsideBetween → PlainBetween
attributes_between_of it = record {
  value = map_value (value_entries it.attributes);
  steps = steps_of it.steps;
  lost = option_map uid_of it.lost;
}

-- why a value of the one type is none of the other: at the end of the steps the types part, or each
-- value of the one is one of the other, and the steps lead to where its values may name a uid that
-- is lost
abbrev pub IsApartAt : Extensions → (PlainUid → Type 0) → (PlainUid → Type 0) → List PlainStep
    → Option PlainUid → Ty → Ty → Type 0
IsApartAt extensions Old New steps None lower upper = IsOutsideAt extensions steps lower upper
IsApartAt extensions Old New steps (Some uid) lower upper =
    IsLostUid Old New uid × MayBeNamedAt steps lower uid × ValuesIncluded extensions lower upper

-- a value is a real one of the first type that names only what the one fact holds of, and it isn't
-- one of the second that names only what the other holds of, for what the steps lead to
pub record IsOutsideBetween (extensions : Extensions) (Old New : PlainUid → Type 0)
    (lower upper : Ty) (it : PlainBetween) : Type 0 where
  pub real : IsValue it.value
  pub has : Has extensions it.value lower
  pub exists : NamesOnly Old it.value
  pub lacks : ¬ (Has extensions it.value upper × NamesOnly New it.value)
  pub apart : IsApartAt extensions Old New it.steps it.lost lower upper

-- what is found for two types: that each value is kept, or one that isn't
abbrev pub IsBetweenAnswer : Extensions → (PlainUid → Type 0) → (PlainUid → Type 0) → Ty → Ty
    → Option PlainBetween → Type 0
IsBetweenAnswer extensions Old New lower upper None = ValuesKept extensions Old New lower upper
IsBetweenAnswer extensions Old New lower upper (Some it) =
    IsOutsideBetween extensions Old New lower upper it
