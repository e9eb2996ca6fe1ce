-- Uids that exist in a schema, as a law of the walk between two versions has it.
use Rattle.std.proofs.Common.{[], Option, Some, None, inl, refl, subst, map}
use Rattle.std.proofs.lemmas.Str.{IsUtf8-string_bytes}
use Rattle.std.specs.Option.{option_map}
use Rattle.cedar_ast.proofs.Lists.{Contains-cons}
use Rattle.cedar_ast.proofs.ValueLemmas.{IsText-nil}
use Rattle.cedar_ast.specs.Words.{IsActionType, IsName, IsText, PlainName, PlainUid, Text, eid_text}
use Rattle.cedar_entities.specs.Exists.{Exists, IsIdOf, MayHaveId}
use Rattle.cedar_entities.specs.Inclusion.{HasUidOf}
use Rattle.cedar_schema.proofs.Lookups.{schema_keyed, type_at}
use Rattle.cedar_schema.specs.Lookup.{IsTypeAt, plain_type}
use Rattle.cedar_schema.specs.ValidatorSchema.{entity_type_named, schema_of}
use Rattle.cedar_schema.specs.declared.schema.ValidatorSchema.{ValidatorSchema}
use Rattle.cedar_schema_elements.specs.EntityTypeKind.{plain_kind}
use Rattle.cedar_schema_elements.specs.declared.entity_type.ValidatorEntityType.{ValidatorEntityType}
use Rattle.cedar_schema_elements.specs.declared.entity_type_kind.ValidatorEntityTypeKind.{ValidatorEntityTypeKind}
use Rattle.cedar_schema_elements.specs.declared.entity_type_kind.ValidatorEntityTypeKind.TheVariants.{Enum, External, Standard}
use Rattle.cedar_schema_semantics.specs.Words.{PlainSchema, SchemaEntityType}

-- a uid that isn't one of an action exists where its type may have its id
pub exists_plain : (schema : PlainSchema) (uid : PlainUid) → ¬ IsActionType uid.ty → MayHaveId schema uid → Exists schema uid
exists_plain schema uid plain may = record { choice = may; action = λ of_actions. absurd (plain of_actions) }

-- a kind has an id that is a text
some_id_of : (kind : ValidatorEntityTypeKind) → (id : Text) × IsText id × IsIdOf (plain_kind kind) id
some_id_of (Standard it) = ([], IsText-nil, tt)
some_id_of (Enum choices) =
    let first = eid_text choices.head in
    (first, IsUtf8-string_bytes choices.head.0, Contains-cons first (map eid_text choices.tail.items) first (inl refl))
some_id_of External = ([], IsText-nil, tt)

-- of each type that isn't one of actions a uid exists
pub types_have_uids : (schema : ValidatorSchema) (name : PlainName) → IsName name → ¬ IsActionType name
    → HasUidOf (Exists (schema_of schema)) name
types_have_uids schema name named plain = of_found (entity_type_named schema name) (type_at schema name (entity_type_named schema name) refl)
  where
    of_found : (o : Option ValidatorEntityType) → IsTypeAt (schema_of schema) name (option_map plain_type o)
        → HasUidOf (Exists (schema_of schema)) name
    of_found None none = (
      record { ty = name; eid = [] },
      refl,
      (named, IsText-nil),
      exists_plain (schema_of schema) (record { ty = name; eid = [] }) plain (λ it there. absurd (none it there)),
    )
    of_found (Some ty) there =
        let id = some_id_of ty.kind in (
          record { ty = name; eid = id.0 },
          refl,
          (named, id.1),
          exists_plain (schema_of schema) (record { ty = name; eid = id.0 }) plain (λ it among.
              subst (λ (t : SchemaEntityType). IsIdOf t.kind id.0) ((schema_keyed schema).types name (plain_type ty) it there among) id.2),
        )
