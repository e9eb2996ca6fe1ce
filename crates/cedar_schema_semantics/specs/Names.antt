use Rattle.std.specs.Prelude.{◌≡◌, ◌⊎◌, List, Contains}
use Rattle.cedar_ast.specs.Words.{PlainName, PlainUid}
use Rattle.cedar_schema_ast.specs.Reference.{Reference, ActionReference}
use Rattle.cedar_schema_ast.specs.declared.json_schema.reference_type.ReferenceType.{ReferenceType}
use Rattle.cedar_schema_ast.specs.declared.json_schema.reference_type.ReferenceType.TheVariants.{Common, Entity, CommonOrEntity}
use Rattle.cedar_schema_semantics.specs.Occurrences.{IsFirst}

-- what references can name: the names of common types, those of entity types, and the uids of
-- actions
pub record Names : Type 0 where
  pub common : List PlainName
  pub entities : List PlainName
  pub actions : List PlainUid

-- a reference of the kind may name common types
abbrev pub MayNameCommon : ReferenceType → Type 0
MayNameCommon Common = Unit {0}
MayNameCommon Entity = ⊥
MayNameCommon CommonOrEntity = Unit {0}

-- a reference of the kind may name entity types
abbrev pub MayNameEntity : ReferenceType → Type 0
MayNameEntity Common = ⊥
MayNameEntity Entity = Unit {0}
MayNameEntity CommonOrEntity = Unit {0}

-- the name is that of an entity type which a reference of the kind may name
abbrev pub IsEntity : Names → ReferenceType → PlainName → Type 0
IsEntity names kind name = MayNameEntity kind × Contains names.entities name

-- a reference of the kind may name what is defined under that name
abbrev pub IsDefined : Names → ReferenceType → PlainName → Type 0
IsDefined names kind name = (MayNameCommon kind × Contains names.common name)
    ⊎ IsEntity names kind name

-- the reference resolves to the name: the first of its possibilities that is defined in a kind that
-- it permits (RFC 24)
abbrev pub ResolvesTo : Names → Reference → PlainName → Type 0
ResolvesTo names reference name =
    IsFirst (IsDefined names reference.kind) reference.possibilities name

-- no possibility of the reference is defined in a kind that it permits (RFC 24)
abbrev pub IsUnresolved : Names → Reference → Type 0
IsUnresolved names reference = (name : PlainName) → Contains reference.possibilities name
    → ¬ IsDefined names reference.kind name

-- of some actions the reference names that of the uid: of the names that its type may stand for the
-- first under which its id is that of one of them (the Cedar reference on schemas)
abbrev pub NamesAction : List PlainUid → ActionReference → PlainUid → Type 0
NamesAction actions reference uid =
    IsFirst (λ ty. Contains actions
    (record { ty = ty; eid = reference.id })) reference.ty.possibilities
    uid.ty × (uid.eid ≡ reference.id)

-- of some actions the reference names none
abbrev pub NamesNoAction : List PlainUid → ActionReference → Type 0
NamesNoAction actions reference =
    (ty : PlainName) → Contains reference.ty.possibilities ty
    → ¬ Contains actions (record { ty = ty; eid = reference.id })
