-- References as keys stand for them.
use Rattle.std.specs.Prelude.{◌≡◌, Bool, true, false, List, [], ◌∷◌, Option, Some, MatchOption, Contains, string_bytes}
use Rattle.cedar_ast.specs.Words.{PlainName, PlainUid, name_of, uid_of}
use Rattle.cedar_ast.specs.declared.entity_uid.EntityUID.{EntityUID}
use Rattle.cedar_diagnosis.specs.declared.parent_key.ParentKey.{ParentKey}
use Rattle.cedar_diagnosis.specs.declared.reference_key.NamedKind.{NamedKind}
use Rattle.cedar_diagnosis.specs.declared.reference_key.NamedKind.TheVariants.{AnyType, CommonType, EntityType}
use Rattle.cedar_diagnosis.specs.declared.reference_key.ReferenceKey.{ReferenceKey}
use Rattle.cedar_schema_ast.specs.Words.{ActionReference, Reference}
use Rattle.cedar_schema_ast.specs.declared.json_schema.reference_type.ReferenceType.{ReferenceType}
use Rattle.cedar_schema_semantics.specs.Words.{Common, CommonOrEntity, Entity, Fault, NamesAction, NamesNoAction, action_not_defined, alias_name}

-- what a reference may name
abbrev pub key_kind : NamedKind → ReferenceType
key_kind CommonType = Common
key_kind EntityType = Entity
key_kind AnyType = CommonOrEntity

-- the names that a reference may stand for: a name, and maybe its base name alone after it
abbrev pub names_tried : Bool → PlainName → List PlainName
names_tried true first = first ∷ alias_name first.base ∷ []
names_tried false first = first ∷ []

-- the reference that a key stands for
abbrev pub key_reference : ReferenceKey → Reference
key_reference key = record {
  possibilities = names_tried key.is_within (name_of key.first);
  kind = key_kind key.kind;
}

-- the parent of an action that a key stands for
abbrev pub key_parent : ParentKey → ActionReference
key_parent key = record { id = string_bytes key.id; ty = key_reference key.reference }

-- what was found of a uid: an action that has it, or that none does
abbrev pub IsActionAt : List PlainUid → PlainUid → Option EntityUID → Type 0
IsActionAt actions uid found =
    MatchOption found (¬ Contains actions uid) (λ one. (uid_of one ≡ uid) × Contains actions uid)

-- what was found of a parent: the action that it names, or that it names none
abbrev pub IsNamedBy : List PlainUid → ActionReference → Option EntityUID → Type 0
IsNamedBy actions parent found =
    MatchOption found (NamesNoAction actions parent) (λ one. NamesAction actions parent (uid_of one))

-- the fault that a parent of an action is which names none
abbrev pub parent_told : ParentKey → Fault
parent_told key =
    action_not_defined ((string_bytes key.id, Some (key_reference key.reference)) ∷ [])
