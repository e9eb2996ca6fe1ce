use Rattle.std.specs.Prelude.{◌≡◌, List, ◌++◌, Contains}
use Rattle.cedar_ast.specs.Words.{IsUnqualified, PlainName, PlainUid, Text}
use Rattle.cedar_schema_semantics.specs.Words.{Fault, Names, ShadowsAction, ShadowsType, action_shadowing, type_shadowing}

-- the names of types, common and entity
abbrev pub type_names : Names → List PlainName
type_names names = names.common ++ names.entities

-- the refusal names two of the names, of which the first would shadow the second
abbrev pub IsShadowing : Names → Fault → Type 0
IsShadowing names (type_shadowing plain qualified) =
    Contains (type_names names) plain × Contains (type_names names) qualified
    × ShadowsType plain qualified
IsShadowing names (action_shadowing plain qualified) =
    Contains names.actions plain × Contains names.actions qualified × ShadowsAction plain qualified
IsShadowing names _ = ⊥

-- no type would shadow another
abbrev pub NoTypeShadows : List PlainName → List PlainName → Type 0
NoTypeShadows types others = (plain qualified : PlainName) → Contains types plain
    → Contains others qualified → ¬ ShadowsType plain qualified

-- no action would shadow another
abbrev pub NoActionShadows : List PlainUid → Type 0
NoActionShadows actions = (plain qualified : PlainUid) → Contains actions plain
    → Contains actions qualified → ¬ ShadowsAction plain qualified

-- the uid is one of some, has an unqualified type, and has the id
abbrev pub IsPlainAction : List PlainUid → Text → PlainUid → Type 0
IsPlainAction actions id uid = Contains actions uid × IsUnqualified uid.ty × (uid.eid ≡ id)
