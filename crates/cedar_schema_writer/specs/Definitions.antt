-- Definitions of namespaces, as declarations are put into them.
use Rattle.std.specs.List.{flat_map}
use Rattle.std.specs.List.Sorted.{IsPermutation}
use Rattle.std.specs.Map.{values_of}
use Rattle.std.specs.Option.{is_some}
use Rattle.std.specs.Prelude.{◌≡◌, ◌≢◌, not, false, List, [], ◌++◌, map, Option, None, Some, All}
use Rattle.cedar_ast.specs.Words.{HoldsPairwise, PlainName, PlainUid, Text}
use Rattle.cedar_ast.specs.declared.name.Name.{Name}
use Rattle.cedar_schema_ast.specs.Words.{ActionBody, Declaration, EntityBody, Requests, action, applies_to, elsewhere, entity_type, raw_declarations, raw_reference}
use Rattle.cedar_schema_ast.specs.declared.json_schema.action_type.ActionType.{ActionType}
use Rattle.cedar_schema_ast.specs.declared.json_schema.action_type.ApplySpec.{ApplySpec}
use Rattle.cedar_schema_ast.specs.declared.json_schema.fragment.NamespaceDefinition.{NamespaceDefinition}
use Rattle.cedar_schema_ast.specs.declared.json_schema.raw_name.RawName.{RawName}
use Rattle.cedar_schema_semantics.specs.Words.{ActionKind, AreRequestsWritten, Bag, full_uid}
use Rattle.cedar_schema_writer.specs.Parts.{plain_namespace}

-- definitions of namespaces, each under the name of its namespace
abbrev pub Definitions : Type 0
Definitions = List (Option Name × NamespaceDefinition RawName)

-- the declarations of some definitions
abbrev pub definitions_bag : Definitions → Bag
definitions_bag definitions = flat_map (λ entry.
    raw_declarations (plain_namespace entry.0) entry.1) definitions

-- a declaration of an entity type
abbrev pub type_declared : Option PlainName → Text → EntityBody → Declaration
type_declared namespace id body = record { namespace = namespace; id = id; body = entity_type body }

-- a declaration of an action
abbrev pub action_declared : Option PlainName → Text → ActionBody → Declaration
action_declared namespace id body = record { namespace = namespace; id = id; body = action body }

-- an action is written with an `appliesTo` part exactly if it isn't external
abbrev pub AppliesIfDefined : ActionType RawName → Type 0
AppliesIfDefined it = is_some it.applies_to ≡ not it.external

-- the definition declares something, and each of its actions has an `appliesTo` part exactly if it
-- isn't external
pub record IsProper (definition : NamespaceDefinition RawName) : Type 0 where
  pub declares : (namespace : Option PlainName) → raw_declarations namespace definition ≢ []
  pub applies : All AppliesIfDefined (values_of definition.actions.entries)

-- each definition is so
abbrev pub AreProper : Definitions → Type 0
AreProper definitions = All IsProper (values_of definitions)

-- the requests that an `appliesTo` part gives in the namespace; an external action has none
abbrev pub requests_written : Option PlainName → Option (ApplySpec RawName) → Requests
requests_written namespace None = elsewhere
requests_written namespace (Some it) =
    applies_to RawName (raw_reference namespace) namespace (Some it)

-- what is declared of an action is written of it: without attributes, with these parents in full,
-- and for its requests
pub record IsActionWritten (namespace : Option PlainName) (parents : List PlainUid)
    (kind : ActionKind) (body : ActionBody) : Type 0 where
  pub without_attributes : body.has_attributes ≡ false
  pub parents_are : body.parents ≡ map (full_uid namespace) parents
  pub requests_are : AreRequestsWritten namespace kind body.applies_to

-- the declarations of some items are put into a bag, one for each, in turn
pub record ArePut {A : Type 0} (R : A → Declaration → Type 0) (items : List A)
    (before after : Bag) : Type 0 where
  pub put : List Declaration
  pub turn : HoldsPairwise R items put
  pub in_some_order : IsPermutation (before ++ put) after
