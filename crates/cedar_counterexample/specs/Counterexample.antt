use Rattle.std.specs.Prelude.{List, [], ◌∷◌, Option, Some, None}
use Rattle.cedar_ast.specs.Words.{Entries, IsValue, Text, Tree, entries_of, entry, map_value, no_entry, no_tree, set_value, tree, tree_of}
use Rattle.cedar_ast.specs.declared.extension.Extensions.{Extensions}
use Rattle.cedar_counterexample.specs.Steps.{IsOutsideAt, PlainStep, attribute_step, element_step, noted_steps}
use Rattle.cedar_counterexample.specs.declared.found.Found.{Found}
use Rattle.cedar_counterexample.specs.declared.found.Start.{Start}
use Rattle.cedar_type_rules.specs.Words.{Has, IncludedByParts, Ty}

-- a real value of a type
abbrev pub IsValueOf : Extensions → Ty → Tree → Type 0
IsValueOf extensions ty value = IsValue value × Has extensions value ty

-- a value separates two types: it is a real one, the first type has it, and the second hasn't
abbrev pub IsCounterexample : Extensions → Ty → Ty → Tree → Type 0
IsCounterexample extensions a b value = IsValueOf extensions a value × ¬ Has extensions value b

-- what is found for two types: nothing if their parts say that each value of the first is one of
-- the second, and else a value that separates them
abbrev pub IsCounterexampleAnswer : Extensions → Ty → Ty → Option Tree → Type 0
IsCounterexampleAnswer extensions a b None = IncludedByParts a b
IsCounterexampleAnswer extensions a b (Some value) = IsCounterexample extensions a b value

-- values of a record, with steps down two types
pub record PlainStart : Type 0 where
  pub values : Entries
  pub steps : List PlainStep

-- a value, with steps down two types
pub record PlainFound : Type 0 where
  pub value : Tree
  pub steps : List PlainStep

-- what a start stands for
abbrev pub start_of : Start → PlainStart
start_of start = record { values = entries_of start.values; steps = noted_steps start.steps }

-- what an expression that was found stands for
abbrev pub found_of : Found → PlainFound
found_of found = record { value = tree_of found.expr; steps = noted_steps found.steps }

-- what the values of a record that were found stand for, as one value
abbrev pub record_found : Start → PlainFound
record_found start =
    record { value = map_value (entries_of start.values); steps = noted_steps start.steps }

-- a start of one value, with the step to its attribute before those of the value
abbrev pub start_through : Text → PlainFound → PlainStart
start_through name found =
    record { values = entry name found.value no_entry; steps = attribute_step name ∷ found.steps }

-- a start without values, with the step to an attribute
abbrev pub empty_start : Text → PlainStart
empty_start name = record { values = no_entry; steps = attribute_step name ∷ [] }

-- the set of one value, with the step to its elements before those of the value
abbrev pub found_element : PlainFound → PlainFound
found_element found =
    record { value = set_value (tree found.value no_tree); steps = element_step ∷ found.steps }

-- the same of two types, with steps to where they part
abbrev pub IsOutsideAnswer : Extensions → Ty → Ty → Option PlainFound → Type 0
IsOutsideAnswer extensions a b None = IncludedByParts a b
IsOutsideAnswer extensions a b (Some found) =
    IsCounterexample extensions a b found.value × IsOutsideAt extensions found.steps a b
