use Rattle.std.specs.Prelude.{true, false, List, [], ◌∷◌, None, codes}
use Rattle.cedar_ast.specs.Words.{PlainName, PlainUid, Text, action_word}
use Rattle.cedar_schema_ast.specs.Words.{entity_type, long_expr, member, named, no_member, record_expr, reference_to, standard}
use Rattle.cedar_schema_ast.specs.declared.json_schema.reference_type.ReferenceType.TheVariants.{Entity}
use Rattle.cedar_schema_semantics.specs.Words.{Bag, EntityTypeKind, PlainSchema, SchemaAction, SchemaEntityType, alias_name, defined_action, external_action, standard_kind}
use Rattle.cedar_type_rules.specs.Ty.{Fields, Ty, end, field, long, record_of, union_of}
use Rattle.cedar_type_rules.specs.declared.open_tag.OpenTag.TheVariants.{ClosedAttributes}
use Rattle.declaration_examples.specs.Samples.{action_here, declared_within, entity_here, refer_within, within_sample}

-- an entity type under its name, of a kind and with some descendants
abbrev pub type_entry : PlainName → EntityTypeKind → List PlainName → PlainName × SchemaEntityType
type_entry name kind descendants =
    (name, record { name = name; kind = kind; descendants = descendants })

-- an external action under its uid, with some descendants
abbrev pub action_entry : PlainUid → List PlainUid → PlainUid × SchemaAction
action_entry uid descendants =
    (uid, record { uid = uid; kind = external_action; descendants = descendants })

-- a schema of these entity types and actions
abbrev pub schema_of_entries : List (PlainName × SchemaEntityType) → List (PlainUid × SchemaAction)
    → PlainSchema
schema_of_entries types actions =
    record { entity_types = types; actions = actions; action_entities = [] }

-- a standard kind with one attribute of the type, which is required, and no tags
abbrev pub with_attribute : Ty → EntityTypeKind
with_attribute ty = standard_kind (field (codes "a") true ty end) ClosedAttributes None

-- a standard kind without attributes and tags
abbrev pub plain_kind : EntityTypeKind
plain_kind = standard_kind end ClosedAttributes None

-- the entity type `U` alone, of the kind
abbrev pub one_type : EntityTypeKind → PlainSchema
one_type kind = schema_of_entries (type_entry (alias_name (codes "U")) kind [] ∷ []) []

-- an action of the type `Action`
abbrev pub action_named : Text → PlainUid
action_named id = record { ty = alias_name action_word; eid = id }

-- an action of the type `N::Action`
abbrev pub action_within : Text → PlainUid
action_within id = record { ty = within_sample action_word; eid = id }

-- in `N` an entity type whose attribute is of the type `Action`, and these actions
abbrev pub action_attribute : List (PlainUid × SchemaAction) → PlainSchema
action_attribute actions =
    schema_of_entries (type_entry (within_sample (codes "U"))
    (with_attribute (union_of (alias_name action_word ∷ []))) [] ∷ []) actions

-- `Group` with the descendant `U`, and beside it this
abbrev pub group_of : List (PlainName × SchemaEntityType) → PlainSchema
group_of others = schema_of_entries
    (type_entry (alias_name (codes "Group")) plain_kind (alias_name (codes "U") ∷ []) ∷ others) []

-- attributes, of which the first may be missing
abbrev pub sample_fields : Fields
sample_fields = field (codes "a") false long
    (field (codes "g") true (union_of (alias_name (codes "Group") ∷ [])) end)

-- `Group` with the descendant `N::User`, which has attributes, and an action for such principals
abbrev pub sample_schema : PlainSchema
sample_schema = schema_of_entries
    (type_entry (alias_name (codes "Group")) plain_kind (within_sample (codes "User") ∷ [])
    ∷ type_entry (within_sample (codes "User")) (standard_kind sample_fields ClosedAttributes None)
    []
    ∷ [])
    ((
      action_named (codes "view"),
      record {
        uid = action_named (codes "view");
        kind = defined_action (within_sample (codes "User") ∷ []) []
            (record_of end ClosedAttributes);
        descendants = [];
      },
    ) ∷ [])

-- the declarations that say the same: in `N` the name `Group` is tried there first
abbrev pub sample_bag : Bag
sample_bag =
    entity_here (codes "Group") [] no_member
    ∷ declared_within (codes "User")
    (entity_type (standard (refer_within Entity (codes "Group") ∷ [])
    (record_expr (member (codes "a") false long_expr
    (member (codes "g") true (named (refer_within Entity
    (codes "Group"))) no_member)) false)
    None))
    ∷ action_here (codes "view") (reference_to None Entity (within_sample (codes "User")) ∷ [])
    ∷ []
