-- Declarations by the names that are written, each with the namespace that these are written in.
use Rattle.std.specs.Global.{Box}
use Rattle.std.specs.Prelude.{List, map, Option}
use Rattle.cedar_ast.specs.Words.{PlainName, PlainUid, type_name, uid_of}
use Rattle.cedar_ast.specs.declared.entity_type.EntityType.{EntityType}
use Rattle.cedar_ast.specs.declared.entity_uid.EntityUID.{EntityUID}
use Rattle.cedar_fragments.specs.ActionDeclarations.{action_fragment_body}
use Rattle.cedar_fragments.specs.TypeDeclarations.{fragment_body}
use Rattle.cedar_fragments.specs.declared.namespace.actions.ActionFragment.{ActionFragment}
use Rattle.cedar_fragments.specs.declared.namespace.entity_types.EntityTypeFragment.{EntityTypeFragment}
use Rattle.cedar_name_resolution.specs.WrittenTypes.{written_namespace}
use Rattle.cedar_name_resolution.specs.declared.written.Written.{Written}
use Rattle.cedar_schema_ast.specs.Words.{ActionBody, EntityBody, Reference}
use Rattle.cedar_schema_ast.specs.declared.json_schema.reference_type.ReferenceType.{ReferenceType}
use Rattle.cedar_schema_ast.specs.declared.json_schema.type_of.Type.{«Type»}

-- over names of some form, where it is given what a name refers to in a namespace at a place of
-- each kind
module _ (N : Type 0) (refer : Option PlainName → ReferenceType → N → Reference) where
  -- what is declared of an entity type
  abbrev pub written_entity_body : Written (EntityTypeFragment N) → EntityBody
  written_entity_body it = fragment_body N (refer (written_namespace it)) it.declared

  -- what is declared of an action
  abbrev pub written_action_body : Written (ActionFragment N N) → ActionBody
  written_action_body it = action_fragment_body N (refer (written_namespace it)) N
      (refer (written_namespace it)) it.declared

  -- what some entity types stand for: each full name with what is declared of it
  abbrev pub written_entities : List (Box (EntityType × Written (EntityTypeFragment N)))
      → List (PlainName × EntityBody)
  written_entities = map (λ it. (type_name it.value.0, written_entity_body it.value.1))

  -- what some actions stand for: each uid with what is declared of it
  abbrev pub written_actions : List (Box (EntityUID × Written (ActionFragment N N)))
      → List (PlainUid × ActionBody)
  written_actions = map (λ it. (uid_of it.value.0, written_action_body it.value.1))
