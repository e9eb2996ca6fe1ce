use Rattle.std.specs.Prelude.{List, Option, None}
use Rattle.cedar_ast.specs.Text.{Text}
use Rattle.cedar_type_rules.specs.Ty.{Ty, Fields, end}
use Rattle.cedar_type_rules.specs.declared.open_tag.OpenTag.{OpenTag}
use Rattle.cedar_type_rules.specs.declared.open_tag.OpenTag.TheVariants.{ClosedAttributes}

-- how an entity type is declared: by its attributes and the type of its tags (RFC 82), by its
-- choices (RFC 53), or elsewhere (RFC 116)
pub data EntityTypeKind : Type 0 where
  standard_kind : Fields → OpenTag → Option Ty → EntityTypeKind
  enumerated_kind : List Text → EntityTypeKind
  external_kind : EntityTypeKind

-- the attributes of a kind; only standard entity types have some
abbrev pub kind_fields : EntityTypeKind → Fields
kind_fields (standard_kind fields openness tags) = fields
kind_fields _ = end

-- whether entities may have attributes that aren't declared
abbrev pub kind_openness : EntityTypeKind → OpenTag
kind_openness (standard_kind fields openness tags) = openness
kind_openness _ = ClosedAttributes

-- the type of the tags of a kind
abbrev pub kind_tags : EntityTypeKind → Option Ty
kind_tags (standard_kind fields openness tags) = tags
kind_tags _ = None
