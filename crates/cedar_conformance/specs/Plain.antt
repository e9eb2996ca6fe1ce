-- Faults of values as plain data.
use Rattle.std.specs.Prelude.{ℕ, List, ◌∷◌, map, reverse, string_bytes}
use Rattle.cedar_ast.specs.Words.{PlainName, PlainUid, Text, plain_name, uid_of}
use Rattle.cedar_conformance.specs.declared.value_fault.ValueFault.{ValueFault}
use Rattle.cedar_conformance.specs.declared.value_fault.ValueFaultKind.{ValueFaultKind}
use Rattle.cedar_conformance.specs.declared.value_fault.ValueFaultKind.TheVariants as kind
use Rattle.cedar_conformance.specs.declared.value_fault.ValueStep.{ValueStep}
use Rattle.cedar_conformance.specs.declared.value_fault.ValueStep.TheVariants as step
use Rattle.cedar_type_rules.specs.Words.{Ty}
use Rattle.cedar_types.specs.Words.{ty_of}

-- a step down a value: to the value of the attribute of a name, or to the element at an index
pub data PlainStep : Type 0 where
  attribute_step : Text → PlainStep
  element_step : ℕ → PlainStep

-- what is wrong with a part of a value: it isn't of the type, it lacks an attribute or has one too
-- many, it calls an unknown function, or it names what doesn't exist
pub data PlainKind : Type 0 where
  wrong_type : Ty → PlainKind
  missing_attribute : Text → PlainKind
  unexpected_attribute : Text → PlainKind
  unknown_function : PlainName → PlainKind
  no_such_choice : PlainUid → PlainKind

-- a fault of a value: the steps to the part, and what is wrong with it
pub record PlainFault : Type 0 where
  pub steps : List PlainStep
  pub kind : PlainKind

-- what a step stands for
abbrev pub step_of : ValueStep → PlainStep
step_of (step.Attribute name) = attribute_step (string_bytes name)
step_of (step.Element index) = element_step index

-- what a kind of fault stands for
abbrev pub kind_of : ValueFaultKind → PlainKind
kind_of (kind.WrongType ty) = wrong_type (ty_of ty)
kind_of (kind.MissingAttribute name) = missing_attribute (string_bytes name)
kind_of (kind.UnexpectedAttribute name) = unexpected_attribute (string_bytes name)
kind_of (kind.UnknownFunction name) = unknown_function (plain_name name)
kind_of (kind.NoSuchChoice uid) = no_such_choice (uid_of uid)

-- what a fault stands for
abbrev pub fault_of : ValueFault → PlainFault
fault_of it = record { steps = map step_of it.steps.items; kind = kind_of it.kind }

-- what a fault stands for whose steps were noted on the way up, the last one first
abbrev pub noted_fault : ValueFault → PlainFault
noted_fault it = record { steps = map step_of (reverse it.steps.items); kind = kind_of it.kind }

-- a fault of a part to which one more step leads
abbrev pub under_step : PlainStep → PlainFault → PlainFault
under_step step it = record { steps = step ∷ it.steps; kind = it.kind }
