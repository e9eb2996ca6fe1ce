use Rattle.std.specs.Prelude.{◌≡◌, ◌⊎◌, Contains}
use Rattle.cedar_ast.specs.PlainName.{PlainName}
use Rattle.cedar_type_rules.specs.Ty.{Ty, union_of, set_of, record_of, extension_of, Fields, end, field}

abbrev mutual
  -- the entity type stands in the type
  pub MentionsEntity : Ty → PlainName → Type 0
  MentionsEntity (union_of names) name = Contains names name
  MentionsEntity (set_of ty) name = MentionsEntity ty name
  MentionsEntity (record_of fields openness) name = FieldsMentionEntity fields name
  MentionsEntity _ name = ⊥

  -- the entity type stands in the type of some attribute
  pub FieldsMentionEntity : Fields → PlainName → Type 0
  FieldsMentionEntity end name = ⊥
  FieldsMentionEntity (field text required ty rest) name =
      MentionsEntity ty name ⊎ FieldsMentionEntity rest name

abbrev mutual
  -- the extension type stands in the type
  pub MentionsExtensionType : Ty → PlainName → Type 0
  MentionsExtensionType (extension_of other) name = other ≡ name
  MentionsExtensionType (set_of ty) name = MentionsExtensionType ty name
  MentionsExtensionType (record_of fields openness) name = FieldsMentionExtensionType fields name
  MentionsExtensionType _ name = ⊥

  -- the extension type stands in the type of some attribute
  pub FieldsMentionExtensionType : Fields → PlainName → Type 0
  FieldsMentionExtensionType end name = ⊥
  FieldsMentionExtensionType (field text required ty rest) name = MentionsExtensionType ty name
      ⊎ FieldsMentionExtensionType rest name
