-- Which declarations of entity types JSON values describe.
use Rattle.std.specs.Prelude.{List, [], ◌∷◌, Bool, false, Option, Some, None, option_map, option_and_then, codes}
use Rattle.cedar_ast.specs.Text.{Text}
use Rattle.cedar_json.specs.Fields.{annotations_fit, flag_or, has_only, known_fields}
use Rattle.cedar_json.specs.Lists.{all_of, field_or}
use Rattle.cedar_json.specs.TypeFormat.{if_so, type_of}
use Rattle.cedar_json.specs.WrittenName.{spelled_name}
use Rattle.cedar_json.specs.declared.fault.Row.TheVariants.{OfEntityType, OfEnumeratedType}
use Rattle.cedar_schema_ast.specs.Words.{EntityBody, Expr, Reference, enumerated, kind_body, no_member, raw_reference, record_expr, reference_to, standard}
use Rattle.cedar_schema_ast.specs.declared.json_schema.entity_type.EntityType.{EntityType}
use Rattle.cedar_schema_ast.specs.declared.json_schema.entity_type.EntityTypeKind.{EntityTypeKind}
use Rattle.cedar_schema_ast.specs.declared.json_schema.raw_name.RawName.{RawName}
use Rattle.cedar_schema_ast.specs.declared.json_schema.reference_type.ReferenceType.TheVariants.{Entity}
use Rattle.json.specs.Find.{as_array, as_str, get}
use Rattle.json.specs.Json.{Json}

-- what is declared of an entity type, as it was written, and whether the declaration is external
pub record WrittenEntity : Type 0 where
  pub body : EntityBody
  pub external : Bool

-- what a kind of entity type says, whether or not it is external
abbrev pub written_kind : EntityTypeKind RawName → EntityBody
written_kind kind = kind_body RawName (raw_reference None) kind false

-- the plain data of a declaration
abbrev pub written_entity : EntityType RawName → WrittenEntity
written_entity it = record { body = written_kind it.kind; external = it.external }

-- the reference to an entity type that a text spells
abbrev pub entity_reference : Json → Option Reference
entity_reference j = option_map (reference_to None Entity) (option_and_then spelled_name (as_str j))

-- the references that an array lists
abbrev pub references_in : Json → Option (List Reference)
references_in j = option_and_then (all_of entity_reference) (as_array j)

-- the closed record without attributes
abbrev pub empty_record : Expr
empty_record = record_expr no_member false

-- the type of a shape or a context
abbrev pub shape_in : Option Json → Option Expr
shape_in held = field_or empty_record type_of held

-- the type of the tags, where there is one
abbrev pub tags_in : Option Json → Option (Option Expr)
tags_in held = field_or None (λ j. option_map Some (type_of j)) held

-- the parents that a field lists
abbrev pub parents_in : Option Json → Option (List Reference)
parents_in held = field_or [] references_in held

-- what is said over parents, shape and tags
abbrev pub standard_by : Option (List Reference) → Option Expr → Option (Option Expr)
    → Option EntityBody
standard_by parents shape tags =
    option_and_then (λ p. option_and_then (λ s. option_map (standard p s) tags) shape) parents

-- what a declaration says that lists no ids
abbrev pub standard_of : Json → Option EntityBody
standard_of j =
    standard_by (parents_in (get (codes "memberOfTypes") j)) (shape_in (get (codes "shape") j))
    (tags_in (get (codes "tags") j))

-- the texts of a list that has one at least
abbrev pub at_least_one : List Text → Option (List Text)
at_least_one [] = None
at_least_one (first ∷ rest) = Some (first ∷ rest)

-- the ids that an array lists, at least one
abbrev pub choices_in : Json → Option (List Text)
choices_in j = option_and_then at_least_one (option_and_then (all_of as_str) (as_array j))

-- what a declaration says by its field `enum`
abbrev pub body_by : Json → Option Json → Option EntityBody
body_by j None = if_so (has_only (known_fields OfEntityType j) j) (standard_of j)
body_by j (Some held) = if_so (has_only (known_fields OfEnumeratedType j) j)
    (option_map enumerated (choices_in held))

-- the declaration that a value describes over its parts
abbrev pub entity_by : Option EntityBody → Option Bool → Bool → Option WrittenEntity
entity_by body external fits =
    option_and_then (λ b. option_and_then (λ e.
    if_so fits (Some (record { body = b; external = e }))) external) body

-- the declaration that a value describes
abbrev pub entity_of : Json → Option WrittenEntity
entity_of j =
    entity_by (body_by j (get (codes "enum") j)) (flag_or false (get (codes "external") j))
    (annotations_fit (get (codes "annotations") j))
