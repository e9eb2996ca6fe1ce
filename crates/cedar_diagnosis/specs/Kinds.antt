-- The faults of some kinds, told at once.
use Rattle.std.specs.Prelude.{◌≡◌, ◌++◌, ◌∷◌, [], List, Contains}
use Rattle.cedar_ast.specs.Words.{Twice}
use Rattle.cedar_ast.specs.declared.extension.Extensions.{Extensions}
use Rattle.cedar_diagnosis.specs.Diagnosis.{IsTold, NamesOne}
use Rattle.cedar_schema_semantics.specs.Words.{Bag, Fault, IsFault}
use Rattle.cedar_schema_semantics.specs.Fault as fault

-- the kinds of faults that declarations have
pub data Kind : Type 0 where
  action_attributes : Kind
  open_record : Kind
  undeclared_entity_types : Kind
  type_not_defined : Kind
  action_not_defined : Kind
  type_shadowing : Kind
  action_shadowing : Kind
  duplicate_entity_type : Kind
  duplicate_common_type : Kind
  duplicate_action : Kind
  action_cycle : Kind
  common_type_cycle : Kind
  action_entity_type : Kind
  shape_not_record : Kind
  context_not_record : Kind
  unknown_extension_type : Kind
  reserved_name : Kind
  external_below_enumerated : Kind
  enumerated_below : Kind
  other : Kind

-- the kind of a fault
abbrev pub kind_of : Fault → Kind
kind_of (fault.action_attributes ids) = action_attributes
kind_of fault.open_record = open_record
kind_of (fault.undeclared_entity_types names) = undeclared_entity_types
kind_of (fault.type_not_defined references) = type_not_defined
kind_of (fault.action_not_defined actions) = action_not_defined
kind_of (fault.type_shadowing plain qualified) = type_shadowing
kind_of (fault.action_shadowing plain qualified) = action_shadowing
kind_of (fault.duplicate_entity_type name) = duplicate_entity_type
kind_of (fault.duplicate_common_type name) = duplicate_common_type
kind_of (fault.duplicate_action uid) = duplicate_action
kind_of (fault.action_cycle uid) = action_cycle
kind_of (fault.common_type_cycle name) = common_type_cycle
kind_of (fault.action_entity_type name) = action_entity_type
kind_of (fault.shape_not_record name) = shape_not_record
kind_of (fault.context_not_record uid) = context_not_record
kind_of (fault.unknown_extension_type name) = unknown_extension_type
kind_of (fault.reserved_name name) = reserved_name
kind_of (fault.external_below_enumerated lower upper) = external_below_enumerated
kind_of (fault.enumerated_below lower upper) = enumerated_below
kind_of _ = other

-- what is told are faults of the bag, of these kinds; each names one where it may name several, and
-- is told once; and each fault of the bag that is of these kinds is told
pub record IsDiagnosis (bag : Bag) (extensions : Extensions) (kinds : List Kind)
    (told : List Fault) : Type 0 where
  pub of_kinds : (each : Fault) → Contains told each → Contains kinds (kind_of each)
  pub each : (each : Fault) → Contains told each → IsFault bag extensions each
  pub one : (each : Fault) → Contains told each → NamesOne each
  pub once : (each : Fault) → ¬ Twice told each
  pub all : (each : Fault) → Contains kinds (kind_of each) → IsFault bag extensions each
      → IsTold told each

-- after what was told before, the faults of the kinds are told
abbrev pub TellsTogether : Bag → Extensions → List Kind → List Fault → List Fault → Type 0
TellsTogether bag extensions kinds before after =
    (more : List Fault) × (after ≡ before ++ more) × IsDiagnosis bag extensions kinds more

-- the kinds that are told of names and of what is declared twice
abbrev pub declared_kinds : List Kind
declared_kinds = type_shadowing ∷ action_shadowing ∷ duplicate_common_type
    ∷ duplicate_entity_type ∷ duplicate_action ∷ action_entity_type ∷ action_attributes
    ∷ reserved_name ∷ []

-- the kinds that are told of types and of references
abbrev pub type_kinds : List Kind
type_kinds = open_record ∷ unknown_extension_type ∷ type_not_defined
    ∷ undeclared_entity_types ∷ action_not_defined ∷ enumerated_below
    ∷ common_type_cycle ∷ action_cycle ∷ []

-- all kinds that are told
abbrev pub told_kinds : List Kind
told_kinds = declared_kinds ++ type_kinds
