-- Two versions of a schema that are compared.
use Rattle.std.specs.Prelude.{◌≡◌, List, Contains, map}
use Rattle.cedar_ast.specs.Words.{Entries, IsValue, PlainName, PlainUid, entities_of, uid_value}
use Rattle.cedar_compare.specs.Fresh.{IsFreshIn}
use Rattle.cedar_compare.specs.Sampled.{IsSchemaSampled}
use Rattle.cedar_schema.specs.Lookup.{IsKeyed}
use Rattle.cedar_compare.specs.declared.versions.Versions.{Versions}
use Rattle.cedar_schema.specs.ValidatorSchema.{action_entries, schema_of}
use Rattle.cedar_schema_elements.specs.ActionEntities.{plain_action_entity, schema_with}
use Rattle.cedar_schema_semantics.specs.Words.{ActionEntity, AreActionEntities, EntityTypeKind, PlainSchema, standard_kind}
use Rattle.cedar_types.specs.Samples.{value_trees}

-- the old version
abbrev pub old_of : Versions → PlainSchema
old_of it = schema_of it.old.now

-- the new version
abbrev pub new_of : Versions → PlainSchema
new_of it = schema_of it.new.now

-- the two versions can be compared: each has what stands under its names once, the types of the old
-- one are sampled, and the entities of actions are those of the new one
pub record AreVersions (it : Versions) : Type 0 where
  pub old_keyed : IsKeyed (old_of it)
  pub new_keyed : IsKeyed (new_of it)
  pub sampled : IsSchemaSampled it.extensions.now (value_trees it.samples.now) (old_of it)
  pub new_actions : AreActionEntities (schema_with (new_of it).entity_types
      (action_entries it.new.now) (map plain_action_entity (entities_of it.new_actions.now)))

-- the kind is that of standard entity types
abbrev pub IsStandard : EntityTypeKind → Type 0
IsStandard (standard_kind fields openness tags) = Unit {0}
IsStandard _ = ⊥

-- an entity is of a uid that a schema doesn't name, with these attributes, tags and ancestors, of
-- which it isn't one
pub record IsFreshEntity (schema : PlainSchema) (name : PlainName) (attributes tags : Entries)
    (ancestors : List PlainUid) (it : ActionEntity) : Type 0 where
  pub fresh : IsFreshIn schema name it.uid
  pub real : IsValue (uid_value it.uid)
  pub attributes_are : it.attributes ≡ attributes
  pub tags_are : it.tags ≡ tags
  pub ancestors_are : it.ancestors ≡ ancestors
  pub not_itself : ¬ Contains ancestors it.uid
