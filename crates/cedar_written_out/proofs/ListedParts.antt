-- What is listed of one entity type and of one action.
use Rattle.std.proofs.Common.{◌≡◌, ◌++◌, List, [], ◌∷◌, Option, None, Some, Vec, ap, ◌∙◌}
use Rattle.std.specs.Option.{option_map}
use Rattle.std.specs.declared.alloc.Global.{Global}
use Rattle.cedar_ast.specs.declared.entity_type.EntityType.{EntityType}
use Rattle.cedar_ast.specs.declared.entity_uid.EntityUID.{EntityUID}
use Rattle.cedar_fragments.specs.ActionDeclarations.{fragment_requests}
use Rattle.cedar_fragments.specs.TypeDeclarations.{fragment_body}
use Rattle.cedar_fragments.specs.declared.namespace.actions.ActionFragment.{ActionFragment}
use Rattle.cedar_fragments.specs.declared.namespace.actions.ActionRequests.{ActionRequests}
use Rattle.cedar_fragments.specs.declared.namespace.entity_types.EntityTypeFragment.{EntityTypeFragment}
use Rattle.cedar_fragments.specs.declared.namespace.entity_types.EntityTypeFragment.TheVariants as fragment
use Rattle.cedar_schema_ast.specs.declared.json_schema.entity_type.AttributesOrContext.{AttributesOrContext}
use Rattle.cedar_schema_ast.specs.declared.json_schema.type_of.Type.{«Type»}
use Rattle.cedar_written_out.proofs.ListedLemmas.{ListsAlso-as, ListsAlso-both, ListsAlso-one}
use Rattle.cedar_written_out.specs.Listed.{context, shape, tags}
use Rattle.cedar_written_out.specs.Words.{Defined, Expr, IsMeasured, ListsAlso, RawName, Written, context_exprs, entity_exprs, raw_reference, tags_exprs, type_expr, type_name, uid_of, written_action_body, written_entity_body, written_namespace}
use Rattle.cedar_written_out.specs.declared.figure.Figure.{Figure}
use Rattle.cedar_written_out.specs.declared.listing.DeclaredType.TheVariants as variant
use Rattle.cedar_written_out.specs.declared.listing.Measured.{Measured}

module _ (defined : Defined) (written : Written (EntityTypeFragment RawName)) (attributes : AttributesOrContext RawName) (parents : Vec RawName Global)
    (of_tags : Option («Type» RawName)) (is : written.declared ≡ fragment.Standard attributes parents of_tags) (name ty : EntityType)
    (same : type_name ty ≡ type_name name) (found : Option Figure)
    (measured : IsMeasured defined (type_expr RawName (raw_reference (written_namespace written)) attributes.0) found)
    (before middle : List Measured) (pushed : middle ≡ before ++ record { declared = variant.Shape ty; figure = found } ∷ []) where
  -- what a type stands for in the namespace
  abbrev expr_of : «Type» RawName → Expr
  expr_of = type_expr RawName (raw_reference (written_namespace written))

  -- a standard entity type has a shape, and perhaps tags
  exprs_are : entity_exprs (type_name name) (written_entity_body RawName raw_reference written)
      ≡ (shape (type_name name), expr_of attributes.0) ∷ tags_exprs (type_name name) (option_map expr_of of_tags)
  exprs_are = ap (λ it. entity_exprs (type_name name) (fragment_body RawName (raw_reference (written_namespace written)) it)) is

  -- the shape is listed
  lists_one : ListsAlso defined ((shape (type_name name), expr_of attributes.0) ∷ []) before middle
  lists_one =
      ListsAlso-one defined (shape (type_name name), expr_of attributes.0) (record { declared = variant.Shape ty; figure = found }) before middle pushed
      (record { owner = ap shape same; figure = measured })

  -- which is all where there are no tags
  pub lists_shape : of_tags ≡ None → ListsAlso defined (entity_exprs (type_name name) (written_entity_body RawName raw_reference written)) before middle
  lists_shape none =
      ListsAlso-as defined _ _ before middle
      (exprs_are ∙ ap (λ it. (shape (type_name name), expr_of attributes.0) ∷ tags_exprs (type_name name) (option_map expr_of it)) none)
      lists_one

  -- and the type of the tags after it, where there is one
  pub lists_tags : (of_all : «Type» RawName) → of_tags ≡ Some of_all → (other : EntityType) → type_name other ≡ type_name name
      → (figure : Option Figure) → IsMeasured defined (expr_of of_all) figure → (after : List Measured)
      → after ≡ middle ++ record { declared = variant.Tags other; figure = figure } ∷ []
      → ListsAlso defined (entity_exprs (type_name name) (written_entity_body RawName raw_reference written)) before after
  lists_tags of_all some other same' figure measured' after pushed' =
      ListsAlso-as defined _ _ before after
      (exprs_are ∙ ap (λ it. (shape (type_name name), expr_of attributes.0) ∷ tags_exprs (type_name name) (option_map expr_of it)) some)
      (ListsAlso-both defined ((shape (type_name name), expr_of attributes.0) ∷ []) ((tags (type_name name), expr_of of_all) ∷ []) before middle after lists_one
      (ListsAlso-one defined (tags (type_name name), expr_of of_all) (record { declared = variant.Tags other; figure = figure }) middle after pushed'
      (record { owner = ap tags same'; figure = measured' })))

-- the context of an action is listed
pub lists_context : (defined : Defined) (written : Written (ActionFragment RawName RawName)) (it : ActionRequests RawName)
    → written.declared.requests ≡ Some it → (uid other : EntityUID) → uid_of other ≡ uid_of uid → (found : Option Figure)
    → IsMeasured defined (type_expr RawName (raw_reference (written_namespace written)) it.context) found → (before after : List Measured)
    → after ≡ before ++ record { declared = variant.Context other; figure = found } ∷ []
    → ListsAlso defined (context_exprs (uid_of uid) (written_action_body RawName raw_reference written).applies_to) before after
lists_context defined written it is uid other same found measured before after pushed =
    let expr : Expr = type_expr RawName (raw_reference (written_namespace written)) it.context in
    ListsAlso-as defined _ _ before after
    (ap (λ each. context_exprs (uid_of uid) (fragment_requests RawName (raw_reference (written_namespace written)) each)) is)
    (ListsAlso-one defined (context (uid_of uid), expr) (record { declared = variant.Context other; figure = found }) before after pushed
    (record { owner = ap context same; figure = measured }))
