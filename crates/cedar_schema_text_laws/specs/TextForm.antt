-- The text form of a fragment: what is read again where it is written in Cedar's schema text (Cedar
-- reference, schema format).
use Rattle.std.specs.List.{flat_map}
use Rattle.std.specs.Prelude.{Bool, ◌&&◌, [], ◌∷◌, Option, None, Some, cond, map, option_map}
use Rattle.cedar_ast.specs.Words.{PlainName, Text}
use Rattle.cedar_json.specs.ActionFormat.{WrittenAction}
use Rattle.cedar_json.specs.DefinitionFormat.{WrittenDefinition, WrittenFragment}
use Rattle.cedar_json.specs.EntityFormat.{WrittenEntity}
use Rattle.cedar_schema_ast.specs.Words.{EntityBody, Expr, Members, Requests}
use Rattle.cedar_schema_text_meaning.specs.TextForm as form
use Rattle.cedar_schema_text_writer.specs.Names.{First, is_none}

-- what is written in a namespace, where it is known what names would name; a name that is read may
-- stand for itself alone
module _ (first : First) (namespace : Option PlainName) where
  -- a built-in type
  abbrev pub read_built_in : Text → Expr
  read_built_in = form.built_in_form first namespace None

  -- a type
  abbrev pub type_form : Expr → Expr
  type_form = form.expr_form read_built_in

  -- attributes
  abbrev pub members_form : Members → Members
  members_form = form.members_form read_built_in

  -- a context
  abbrev pub context_form : Expr → Expr
  context_form = form.context_form read_built_in

  -- what is declared of an entity type
  abbrev pub body_form : EntityBody → EntityBody
  body_form = form.entity_form read_built_in

  -- the requests that an action is for
  abbrev pub requests_form : Requests → Requests
  requests_form = form.requests_form read_built_in

  -- the declaration of an entity type
  abbrev pub entity_form : WrittenEntity → WrittenEntity
  entity_form it = record { body = body_form it.body; external = it.external }

  -- the declaration of an action
  abbrev pub action_form : WrittenAction → WrittenAction
  action_form it = record {
    attributes = it.attributes;
    applies_to = option_map requests_form it.applies_to;
    member_of = it.member_of;
    external = it.external;
  }

  -- the definition of the namespace
  abbrev pub definition_form : WrittenDefinition → WrittenDefinition
  definition_form it = record {
    common_types = map (λ entry. (entry.0, type_form entry.1)) it.common_types;
    entity_types = map (λ entry. (entry.0, entity_form entry.1)) it.entity_types;
    actions = map (λ entry. (entry.0, action_form entry.1)) it.actions;
  }

-- nothing is declared in a definition
abbrev pub is_bare : WrittenDefinition → Bool
is_bare it = is_none it.common_types && (is_none it.entity_types && is_none it.actions)

module _ (first : First) where
  -- a namespace; the empty one, where nothing is declared in it, is left out
  abbrev pub namespace_form : Option PlainName → WrittenDefinition → WrittenFragment
  namespace_form None it = cond (is_bare it) [] ((None, definition_form first None it) ∷ [])
  namespace_form (Some name) it = (Some name, definition_form first (Some name) it) ∷ []

  -- a fragment
  abbrev pub fragment_form : WrittenFragment → WrittenFragment
  fragment_form it = flat_map (λ entry. namespace_form entry.0 entry.1) it
