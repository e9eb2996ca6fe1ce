-- What the private steps promise of declarations: those of one name together, their parents, and
-- what is elaborated.
use Rattle.std.specs.Prelude.{Bool, true, false, ◌≡◌, ◌⊎◌, List, Option, map}
use Rattle.cedar_ast.specs.Words.{HoldsOfBoth, PlainName}
use Rattle.cedar_elaboration.specs.Words.{CoversExtensions, ElaboratesAs, IsElaborationFault, ResolvesEach}
use Rattle.cedar_elaboration.specs.declared.type_scope.TypeScope.{TypeScope}
use Rattle.cedar_schema_ast.specs.Words.{EntityBody, Expr, external, standard}
use Rattle.cedar_schema_semantics.specs.Words.{CountsInEntity, EntityTypeKind, Fault, HasOpenRecord, IsKindOver, IsRecordType, out_of_memory, shape_not_record}
use Rattle.cedar_type_rules.specs.Ty.{Ty, Fields, record_of}
use Rattle.cedar_type_rules.specs.declared.open_tag.OpenTag.TheVariants.{ClosedAttributes}

-- the names of declarations
abbrev pub entry_names : List (PlainName × EntityBody) → List PlainName
entry_names entries = map (λ it. it.0) entries

-- the type of tags is the one that is declared, elaborated, or there is none
abbrev pub AreElaboratedTags : TypeScope → Option Expr → Option Ty → Type 0
AreElaboratedTags scope = HoldsOfBoth (ElaboratesAs scope)

-- the kind is the one that is declared, over a scope
abbrev pub IsElaboratedKind : TypeScope → EntityBody → EntityTypeKind → Type 0
IsElaboratedKind scope = IsKindOver (ElaboratesAs scope)

-- the shape is elaborated as a record type
abbrev pub HasRecord : TypeScope → EntityBody → Type 0
HasRecord scope (standard parents shape tags) =
    (fields : Fields) × ElaboratesAs scope shape (record_of fields ClosedAttributes)
HasRecord scope _ = Unit {0}

-- what counts in the declaration has no open record, its extension types are known and its
-- references resolve, and the shape is a record type
pub record IsSoundBody (scope : TypeScope) (body : EntityBody) : Type 0 where
  pub closed : (expr : Expr) → CountsInEntity body expr → ¬ HasOpenRecord expr
  pub extensions : (expr : Expr) → CountsInEntity body expr → CoversExtensions scope expr
  pub resolves : (expr : Expr) → CountsInEntity body expr → ResolvesEach scope expr
  pub record_shape : HasRecord scope body

-- the shape is elaborated as a type that is no record type
abbrev pub HasNoRecord : TypeScope → EntityBody → Type 0
HasNoRecord scope (standard parents shape tags) =
    (ty : Ty) × ElaboratesAs scope shape ty × ¬ IsRecordType ty
HasNoRecord scope _ = ⊥

-- why what is declared of a name is refused: what counts in it is, or its shape is no record type;
-- or memory ran out
abbrev pub IsBodyFault : TypeScope → PlainName → EntityBody → Fault → Type 0
IsBodyFault scope name body fault = (fault ≡ out_of_memory)
    ⊎ (((expr : Expr) × CountsInEntity body expr × IsElaborationFault scope expr fault)
    ⊎ ((fault ≡ shape_not_record name) × HasNoRecord scope body))

-- the declaration of an entity type is its definition: it isn't external (RFC 116)
abbrev pub is_entity_definition : EntityBody → Bool
is_entity_definition (external parents) = false
is_entity_definition _ = true
