-- What reads back of declarations that are written as Cedar's schema text (Cedar reference, schema
-- format).
use Rattle.std.specs.Prelude.{Option, codes, map, option_map}
use Rattle.cedar_ast.specs.Words.{PlainName, Text}
use Rattle.cedar_schema_ast.specs.Words.{Body, Declaration, EntityBody, Expr, Members, Reference, Requests, action, common_type, elsewhere, entity_type, enumerated, extension_expr, external, long_expr, member, named, no_member, record_expr, reference_to, requests, set_expr, standard, text_expr, truth_expr}
use Rattle.cedar_schema_ast.specs.declared.json_schema.reference_type.ReferenceType.{ReferenceType}
use Rattle.cedar_schema_ast.specs.declared.json_schema.reference_type.ReferenceType.TheVariants.{Common, CommonOrEntity}
use Rattle.cedar_schema_semantics.specs.Words.{Bag}
use Rattle.cedar_schema_text_writer.specs.Names.{First, built_in_written, first_standing, names_of_bag}

-- a reference that may stand for the same names, of a kind
abbrev pub of_kind : ReferenceType → Reference → Reference
of_kind kind reference = record { possibilities = reference.possibilities; kind = kind }

-- the name of a built-in type, as it is written in a namespace where it is known what names would
-- name, and is read in the other
abbrev pub built_in_form : First → Option PlainName → Option PlainName → Text → Expr
built_in_form first namespace within word =
    named (reference_to within CommonOrEntity (built_in_written first namespace word))

-- what is declared, where it is given what reads back of a built-in type
module _ (built_in : Text → Expr) where
  abbrev mutual
    -- a type: built-in types are references, and each reference is to a common type or to an entity
    -- type
    pub expr_form : Expr → Expr
    expr_form text_expr = built_in (codes "String")
    expr_form long_expr = built_in (codes "Long")
    expr_form truth_expr = built_in (codes "Bool")
    expr_form (extension_expr name) = built_in name
    expr_form (named reference) = named (of_kind CommonOrEntity reference)
    expr_form (set_expr element) = set_expr (expr_form element)
    expr_form (record_expr all additional) = record_expr (members_form all) additional

    -- the attributes of a record
    pub members_form : Members → Members
    members_form no_member = no_member
    members_form (member name required ty rest) =
        member name required (expr_form ty) (members_form rest)

  -- a context: a reference is to a common type
  abbrev pub context_form : Expr → Expr
  context_form (named reference) = named (of_kind Common reference)
  context_form text_expr = expr_form text_expr
  context_form long_expr = expr_form long_expr
  context_form truth_expr = expr_form truth_expr
  context_form (extension_expr name) = expr_form (extension_expr name)
  context_form (set_expr element) = expr_form (set_expr element)
  context_form (record_expr all additional) = expr_form (record_expr all additional)

  -- what is declared of an entity type: its parents and its choices stay
  abbrev pub entity_form : EntityBody → EntityBody
  entity_form (standard parents shape tags) =
      standard parents (expr_form shape) (option_map expr_form tags)
  entity_form (enumerated choices) = enumerated choices
  entity_form (external parents) = external parents

  -- the requests that an action is for: the principals and the resources stay
  abbrev pub requests_form : Requests → Requests
  requests_form (requests principals resources context) =
      requests principals resources (context_form context)
  requests_form elsewhere = elsewhere

  -- what is declared: the parents of an action stay
  abbrev pub body_form : Body → Body
  body_form (common_type definition) = common_type (expr_form definition)
  body_form (entity_type body) = entity_type (entity_form body)
  body_form (action body) = action (record {
    has_attributes = body.has_attributes;
    parents = body.parents;
    applies_to = requests_form body.applies_to;
  })

-- a declaration
abbrev pub declaration_form : First → Declaration → Declaration
declaration_form first it = record {
  namespace = it.namespace;
  id = it.id;
  body = body_form (built_in_form first it.namespace it.namespace) it.body;
}

-- what the first of a reference's possibilities is declared as by a bag
abbrev pub first_by : Bag → First
first_by bag = first_standing (names_of_bag bag)

-- the text form of a bag: that of each declaration, where names would name what the bag declares
abbrev pub bag_form : Bag → Bag
bag_form bag = map (declaration_form (first_by bag)) bag
