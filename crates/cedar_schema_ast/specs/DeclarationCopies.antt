use Rattle.std.specs.BTreeMap.{BTreeMap}
use Rattle.std.specs.Prelude.{◌≡◌, List, Option, map, string_bytes}
use Rattle.std.specs.declared.alloc.Global.{Global}
use Rattle.std.specs.declared.string.String.{String}
use Rattle.cedar_ast.specs.Words.{HoldsOfBoth, HoldsPairwise, eid_text, items_of, plain_loc, plain_name, tree_of, unreserved_id_text, value_expr}
use Rattle.cedar_ast.specs.declared.name.Name.{Name}
use Rattle.cedar_ast.specs.declared.unreserved_id.UnreservedId.{UnreservedId}
use Rattle.cedar_ast.specs.declared.value.Value.{Value}
use Rattle.cedar_schema_ast.specs.CommonTypeId.{common_type_text}
use Rattle.cedar_schema_ast.specs.Copies.{IsTypeCopy}
use Rattle.cedar_schema_ast.specs.declared.json_schema.action_type.ActionEntityUID.{ActionEntityUID}
use Rattle.cedar_schema_ast.specs.declared.json_schema.action_type.ActionType.{ActionType}
use Rattle.cedar_schema_ast.specs.declared.json_schema.action_type.ApplySpec.{ApplySpec}
use Rattle.cedar_schema_ast.specs.declared.json_schema.common_type_id.CommonTypeId.{CommonTypeId}
use Rattle.cedar_schema_ast.specs.declared.json_schema.entity_type.EntityType.{EntityType}
use Rattle.cedar_schema_ast.specs.declared.json_schema.entity_type.EntityTypeKind.{EntityTypeKind}
use Rattle.cedar_schema_ast.specs.declared.json_schema.entity_type.EntityTypeKind.TheVariants as kind
use Rattle.cedar_schema_ast.specs.declared.json_schema.entity_type.StandardEntityType.{StandardEntityType}
use Rattle.cedar_schema_ast.specs.declared.json_schema.fragment.CommonType.{CommonType}
use Rattle.cedar_schema_ast.specs.declared.json_schema.fragment.Fragment.{Fragment}
use Rattle.cedar_schema_ast.specs.declared.json_schema.fragment.NamespaceDefinition.{NamespaceDefinition}

-- the entries of a map are copies of those of another in turn, where it is given when keys and when
-- values are
abbrev pub AreEntriesCopied : {K V : Type 0} → (K → K → Type 0) → (V → V → Type 0) → BTreeMap K V
    → BTreeMap K V → Type 0
AreEntriesCopied IsKeyCopy IsCopy it copy =
    HoldsPairwise (λ entry other. IsKeyCopy entry.0 other.0
    × IsCopy entry.1 other.1) it.entries copy.entries

-- a text is the same as another
abbrev pub IsTextCopy : String Global → String Global → Type 0
IsTextCopy it copy = string_bytes copy ≡ string_bytes it

-- a value is the same as another
abbrev pub IsValueCopy : Value → Value → Type 0
IsValueCopy it copy = tree_of (value_expr copy) ≡ tree_of (value_expr it)

-- a base name is the same as another
abbrev pub IsIdCopy : UnreservedId → UnreservedId → Type 0
IsIdCopy it copy = unreserved_id_text copy ≡ unreserved_id_text it

-- the base name of a common type is the same as another
abbrev pub IsCommonIdCopy : CommonTypeId → CommonTypeId → Type 0
IsCommonIdCopy it copy = common_type_text copy ≡ common_type_text it

-- the name of a namespace is the same as another, at the same location
abbrev pub IsNamespaceCopy : Option Name → Option Name → Type 0
IsNamespaceCopy = HoldsOfBoth (λ it copy.
    (plain_name copy ≡ plain_name it) × (plain_loc copy ≡ plain_loc it))

-- declarations over names of some form, where it is given when one name is like another
module _ (N : Type 0) (alike : N → N → Type 0) where
  -- a common type is a copy of another: its type is, at the same location
  pub record IsCommonTypeCopy (it copy : CommonType N) : Type 0 where
    pub ty : IsTypeCopy N alike it.ty copy.ty
    pub loc : copy.loc ≡ it.loc

  -- what is declared of a standard entity type is a copy
  pub record IsStandardCopy (it copy : StandardEntityType N) : Type 0 where
    pub member_of_types : HoldsPairwise alike it.member_of_types.items copy.member_of_types.items
    pub shape : IsTypeCopy N alike it.shape.0 copy.shape.0
    pub tags : HoldsOfBoth (IsTypeCopy N alike) it.tags copy.tags

  -- what is declared by kind is a copy: of a standard entity type, or the same choices
  abbrev pub IsKindCopy : EntityTypeKind N → EntityTypeKind N → Type 0
  IsKindCopy (kind.Standard it) (kind.Standard copy) = IsStandardCopy it copy
  IsKindCopy (kind.Enum choices) (kind.Enum copies) =
      map eid_text (items_of copies) ≡ map eid_text (items_of choices)
  IsKindCopy _ _ = ⊥

  -- an entity type is a copy of another: its kind is, it is external where the other is, at the
  -- same location
  pub record IsEntityTypeCopy (it copy : EntityType N) : Type 0 where
    pub kind : IsKindCopy it.kind copy.kind
    pub external : copy.external ≡ it.external
    pub loc : copy.loc ≡ it.loc

  -- a reference to an action is a copy of another: the same id, a type that is alike, at the same
  -- location
  pub record IsActionReferenceCopy (it copy : ActionEntityUID N) : Type 0 where
    pub id : IsTextCopy it.id copy.id
    pub ty : HoldsOfBoth alike it.ty copy.ty
    pub loc : copy.loc ≡ it.loc

  -- the requests of an action are copies
  pub record IsApplySpecCopy (it copy : ApplySpec N) : Type 0 where
    pub principal_types : HoldsPairwise alike it.principal_types.items copy.principal_types.items
    pub resource_types : HoldsPairwise alike it.resource_types.items copy.resource_types.items
    pub context : IsTypeCopy N alike it.context.0 copy.context.0

  -- an action is a copy of another: all of its parts are, at the same locations
  pub record IsActionTypeCopy (it copy : ActionType N) : Type 0 where
    pub attributes : HoldsOfBoth
        (AreEntriesCopied IsTextCopy IsValueCopy) it.attributes copy.attributes
    pub applies_to : HoldsOfBoth IsApplySpecCopy it.applies_to copy.applies_to
    pub member_of : HoldsOfBoth (λ groups copies.
        HoldsPairwise IsActionReferenceCopy groups.items copies.items) it.member_of copy.member_of
    pub external : copy.external ≡ it.external
    pub loc : copy.loc ≡ it.loc
    pub defn_loc : copy.defn_loc ≡ it.defn_loc

  -- the declarations of a namespace are copies, each under its name, at the same location
  pub record IsDefinitionCopy (it copy : NamespaceDefinition N) : Type 0 where
    pub common_types : AreEntriesCopied IsCommonIdCopy IsCommonTypeCopy it.common_types
        copy.common_types
    pub entity_types : AreEntriesCopied IsIdCopy IsEntityTypeCopy it.entity_types copy.entity_types
    pub actions : AreEntriesCopied IsTextCopy IsActionTypeCopy it.actions copy.actions
    pub loc : copy.loc ≡ it.loc

  -- a fragment is a copy of another: its namespaces are, each under its name
  abbrev pub IsFragmentCopy : Fragment N → Fragment N → Type 0
  IsFragmentCopy it copy = AreEntriesCopied IsNamespaceCopy IsDefinitionCopy it.0 copy.0
