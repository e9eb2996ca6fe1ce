-- A fragment that is copied declares the same.
use Rattle.std.proofs.Common.{◌≡◌, ◌∙◌, ◌++◌, Bool, false, true, List, [], ◌∷◌, Option, None, Some, Vec, map, ap, refl, string_bytes}
use Rattle.std.specs.List.{flat_map}
use Rattle.std.specs.Option.{is_some, option_map}
use Rattle.std.specs.declared.alloc.Global.{Global}
use Rattle.std.specs.declared.string.String.{String}
use Rattle.cedar_ast.specs.Words.{HoldsOfBoth, HoldsPairwise, PlainName, plain_name, unreserved_id_text}
use Rattle.cedar_ast.specs.declared.name.Name.{Name}
use Rattle.cedar_ast.specs.declared.unreserved_id.UnreservedId.{UnreservedId}
use Rattle.cedar_schema_ast.specs.ActionBody.{action_body, applies_to, parent_action, parent_actions, parent_type, requests_by}
use Rattle.cedar_schema_ast.specs.CommonTypeId.{common_type_text}
use Rattle.cedar_schema_ast.specs.Copies.{AlikeRaw, IsTypeCopy}
use Rattle.cedar_schema_ast.specs.Declaration.{Declaration}
use Rattle.cedar_schema_ast.specs.DeclarationCopies.{IsActionReferenceCopy, IsActionTypeCopy, IsApplySpecCopy, IsCommonIdCopy, IsCommonTypeCopy, IsDefinitionCopy, IsEntityTypeCopy, IsFragmentCopy, IsIdCopy, IsKindCopy, IsNamespaceCopy, IsTextCopy}
use Rattle.cedar_schema_ast.specs.EntityBody.{entity_body, kind_body}
use Rattle.cedar_schema_ast.specs.Reference.{reference_to}
use Rattle.cedar_schema_ast.specs.Words.{action, common_type, entity_type, enumerated, external, raw_declarations, raw_fragment, raw_reference, requests, standard, type_expr}
use Rattle.cedar_schema_ast.specs.declared.json_schema.action_type.ActionEntityUID.{ActionEntityUID}
use Rattle.cedar_schema_ast.specs.declared.json_schema.action_type.ActionType.{ActionType}
use Rattle.cedar_schema_ast.specs.declared.json_schema.action_type.ApplySpec.{ApplySpec}
use Rattle.cedar_schema_ast.specs.declared.json_schema.common_type_id.CommonTypeId.{CommonTypeId}
use Rattle.cedar_schema_ast.specs.declared.json_schema.entity_type.EntityType.{EntityType}
use Rattle.cedar_schema_ast.specs.declared.json_schema.entity_type.EntityTypeKind.{EntityTypeKind}
use Rattle.cedar_schema_ast.specs.declared.json_schema.entity_type.EntityTypeKind.TheVariants as variant
use Rattle.cedar_schema_ast.specs.declared.json_schema.fragment.CommonType.{CommonType}
use Rattle.cedar_schema_ast.specs.declared.json_schema.fragment.Fragment.{Fragment}
use Rattle.cedar_schema_ast.specs.declared.json_schema.fragment.NamespaceDefinition.{NamespaceDefinition}
use Rattle.cedar_schema_ast.specs.declared.json_schema.raw_name.RawName.{RawName}
use Rattle.cedar_schema_ast.specs.declared.json_schema.reference_type.ReferenceType.{ReferenceType}
use Rattle.cedar_schema_ast.specs.declared.json_schema.reference_type.ReferenceType.TheVariants.{Entity}
use Rattle.cedar_schema_ast.specs.declared.json_schema.type_of.Type.{«Type»}

-- what items give, others give that are related to them in turn
map_same : {A B : Type 0} (R : A → A → Type 0) (f : A → B) → ((x y : A) → R x y → f y ≡ f x) → (xs ys : List A)
    → HoldsPairwise R xs ys → map f ys ≡ map f xs
map_same R f each [] [] turns = refl
map_same R f each (x ∷ xs) (y ∷ ys) turns =
    let first = each x y turns.0 in
    let others = map_same R f each xs ys turns.1 in
    λ i. first i ∷ others i
map_same R f each _ _ turns = absurd turns

-- and so they do together
flat_same : {A B : Type 0} (R : A → A → Type 0) (f : A → List B) → ((x y : A) → R x y → f y ≡ f x) → (xs ys : List A)
    → HoldsPairwise R xs ys → flat_map f ys ≡ flat_map f xs
flat_same R f each [] [] turns = refl
flat_same R f each (x ∷ xs) (y ∷ ys) turns =
    let first = each x y turns.0 in
    let others = flat_same R f each xs ys turns.1 in
    λ i. first i ++ others i
flat_same R f each _ _ turns = absurd turns

-- what may be there gives the same where it is related
option_same : {A B : Type 0} (R : A → A → Type 0) (f : A → B) → ((x y : A) → R x y → f y ≡ f x) → (x y : Option A)
    → HoldsOfBoth R x y → option_map f y ≡ option_map f x
option_same R f each None None both = refl
option_same R f each (Some x) (Some y) both = ap Some (each x y both)
option_same R f each _ _ both = absurd both

-- and is there where the other is
is_some_same : {A : Type 0} (R : A → A → Type 0) (x y : Option A) → HoldsOfBoth R x y → is_some y ≡ is_some x
is_some_same R None None both = refl
is_some_same R (Some x) (Some y) both = refl
is_some_same R _ _ both = absurd both

module _ (namespace : Option PlainName) where
  -- the declaration of one common type
  abbrev common_one : CommonTypeId × CommonType RawName → Declaration
  common_one entry = record {
    namespace = namespace;
    id = common_type_text entry.0;
    body = common_type (type_expr RawName (raw_reference namespace) entry.1.ty);
  }

  -- of one entity type
  abbrev entity_one : UnreservedId × EntityType RawName → Declaration
  entity_one entry = record {
    namespace = namespace;
    id = unreserved_id_text entry.0;
    body = entity_type (entity_body RawName (raw_reference namespace) entry.1);
  }

  -- and of one action
  abbrev action_one : String Global × ActionType RawName → Declaration
  action_one entry = record {
    namespace = namespace;
    id = string_bytes entry.0;
    body = action (action_body RawName (raw_reference namespace) namespace entry.1);
  }

  -- like names refer to the same
  refers_same : (kind : ReferenceType) (name copy : RawName) → AlikeRaw name copy
      → raw_reference namespace kind copy ≡ raw_reference namespace kind name
  refers_same kind name copy alike = ap (reference_to namespace kind) alike.name

  -- a type that is copied stands for the same
  type_same : (it copy : «Type» RawName) → IsTypeCopy RawName AlikeRaw it copy
      → type_expr RawName (raw_reference namespace) copy ≡ type_expr RawName (raw_reference namespace) it
  type_same it copy is = is.0 (raw_reference namespace) refers_same

  -- common types that are copied are declared the same
  common_same : (it copy : CommonTypeId × CommonType RawName) → IsCommonIdCopy it.0 copy.0 × IsCommonTypeCopy RawName AlikeRaw it.1 copy.1
      → common_one copy ≡ common_one it
  common_same it copy is =
      let ty = type_same it.1.ty copy.1.ty is.1.ty in
      λ i. record { namespace = namespace; id = is.0 i; body = common_type (ty i) }

  -- what is declared by kind is the same of a copy
  kind_same : (it copy : EntityTypeKind RawName) (is_external : Bool) → IsKindCopy RawName AlikeRaw it copy
      → kind_body RawName (raw_reference namespace) copy is_external ≡ kind_body RawName (raw_reference namespace) it is_external
  kind_same (variant.Standard it) (variant.Standard copy) false is =
      let parents = map_same AlikeRaw (raw_reference namespace Entity) (refers_same Entity) it.member_of_types.items copy.member_of_types.items
      is.member_of_types in
      let shape = type_same it.shape.0 copy.shape.0 is.shape in
      let tags = option_same (IsTypeCopy RawName AlikeRaw) (type_expr RawName (raw_reference namespace)) type_same it.tags copy.tags is.tags in
      λ i. standard (parents i) (shape i) (tags i)
  kind_same (variant.Standard it) (variant.Standard copy) true is =
      ap external (map_same AlikeRaw (raw_reference namespace Entity) (refers_same Entity) it.member_of_types.items copy.member_of_types.items
      is.member_of_types)
  kind_same (variant.Enum choices) (variant.Enum copies) false is = ap enumerated is
  kind_same (variant.Enum choices) (variant.Enum copies) true is = refl
  kind_same (variant.Standard it) (variant.Enum copies) is_external is = absurd is
  kind_same (variant.Enum choices) (variant.Standard copy) is_external is = absurd is

  -- entity types that are copied are declared the same
  entity_same : (it copy : UnreservedId × EntityType RawName) → IsIdCopy it.0 copy.0 × IsEntityTypeCopy RawName AlikeRaw it.1 copy.1
      → entity_one copy ≡ entity_one it
  entity_same it copy is =
      let body = ap (kind_body RawName (raw_reference namespace) copy.1.kind) is.1.external
      ∙ kind_same it.1.kind copy.1.kind it.1.external is.1.kind in
      λ i. record { namespace = namespace; id = is.0 i; body = entity_type (body i) }

  -- the type of a parent is the same
  parent_type_same : (it copy : Option RawName) → HoldsOfBoth AlikeRaw it copy
      → parent_type RawName (raw_reference namespace) namespace copy ≡ parent_type RawName (raw_reference namespace) namespace it
  parent_type_same None None both = refl
  parent_type_same (Some name) (Some copy) both = refers_same Entity name copy both
  parent_type_same None (Some copy) both = absurd both
  parent_type_same (Some name) None both = absurd both

  -- a parent is the same
  parent_same : (it copy : ActionEntityUID RawName) → IsActionReferenceCopy RawName AlikeRaw it copy
      → parent_action RawName (raw_reference namespace) namespace copy ≡ parent_action RawName (raw_reference namespace) namespace it
  parent_same it copy is =
      let ty = parent_type_same it.ty copy.ty is.ty in
      λ i. record { id = is.id i; ty = ty i }

  -- and so are all parents
  parents_same : (it copy : Option (Vec (ActionEntityUID RawName) Global))
      → HoldsOfBoth (λ groups copies. HoldsPairwise (IsActionReferenceCopy RawName AlikeRaw) groups.items copies.items) it copy
      → parent_actions RawName (raw_reference namespace) namespace copy ≡ parent_actions RawName (raw_reference namespace) namespace it
  parents_same None None both = refl
  parents_same (Some groups) (Some copies) both =
      map_same (IsActionReferenceCopy RawName AlikeRaw) (parent_action RawName (raw_reference namespace) namespace) parent_same groups.items copies.items both
  parents_same None (Some copies) both = absurd both
  parents_same (Some groups) None both = absurd both

  -- the requests are the same
  applies_same : (it copy : Option (ApplySpec RawName)) → HoldsOfBoth (IsApplySpecCopy RawName AlikeRaw) it copy
      → applies_to RawName (raw_reference namespace) namespace copy ≡ applies_to RawName (raw_reference namespace) namespace it
  applies_same None None both = refl
  applies_same (Some it) (Some copy) both =
      let principals = map_same AlikeRaw (raw_reference namespace Entity) (refers_same Entity) it.principal_types.items copy.principal_types.items
      both.principal_types in
      let resources = map_same AlikeRaw (raw_reference namespace Entity) (refers_same Entity) it.resource_types.items copy.resource_types.items
      both.resource_types in
      let context = type_same it.context.0 copy.context.0 both.context in
      λ i. requests (principals i) (resources i) (context i)
  applies_same None (Some copy) both = absurd both
  applies_same (Some it) None both = absurd both

  -- by whether the action is external
  requests_same : (is_external : Bool) (it copy : Option (ApplySpec RawName)) → HoldsOfBoth (IsApplySpecCopy RawName AlikeRaw) it copy
      → requests_by RawName (raw_reference namespace) namespace is_external copy
      ≡ requests_by RawName (raw_reference namespace) namespace is_external it
  requests_same true it copy both = refl
  requests_same false it copy both = applies_same it copy both

  -- actions that are copied are declared the same
  action_same : (it copy : String Global × ActionType RawName) → IsTextCopy it.0 copy.0 × IsActionTypeCopy RawName AlikeRaw it.1 copy.1
      → action_one copy ≡ action_one it
  action_same it copy is =
      let has = is_some_same _ it.1.attributes copy.1.attributes is.1.attributes in
      let parents = parents_same it.1.member_of copy.1.member_of is.1.member_of in
      let applies = ap (λ is_external. requests_by RawName (raw_reference namespace) namespace is_external copy.1.applies_to) is.1.external
      ∙ requests_same it.1.external it.1.applies_to copy.1.applies_to is.1.applies_to in
      λ i. record {
        namespace = namespace;
        id = is.0 i;
        body = action (record { has_attributes = has i; parents = parents i; applies_to = applies i });
      }

  -- a definition that is copied declares the same
  definition_same : (it copy : NamespaceDefinition RawName) → IsDefinitionCopy RawName AlikeRaw it copy
      → raw_declarations namespace copy ≡ raw_declarations namespace it
  definition_same it copy is =
      let commons : map common_one copy.common_types.entries ≡ map common_one it.common_types.entries =
      map_same (λ entry other. IsCommonIdCopy entry.0 other.0 × IsCommonTypeCopy RawName AlikeRaw entry.1 other.1) common_one common_same
      it.common_types.entries copy.common_types.entries is.common_types in
      let entities : map entity_one copy.entity_types.entries ≡ map entity_one it.entity_types.entries =
      map_same (λ entry other. IsIdCopy entry.0 other.0 × IsEntityTypeCopy RawName AlikeRaw entry.1 other.1) entity_one entity_same
      it.entity_types.entries copy.entity_types.entries is.entity_types in
      let actions : map action_one copy.actions.entries ≡ map action_one it.actions.entries =
      map_same (λ entry other. IsTextCopy entry.0 other.0 × IsActionTypeCopy RawName AlikeRaw entry.1 other.1) action_one action_same
      it.actions.entries copy.actions.entries is.actions in
      λ i. commons i ++ entities i ++ actions i

-- a fragment that is copied declares the same
pub copied_fragment : (it copy : Fragment RawName) → IsFragmentCopy RawName AlikeRaw it copy → raw_fragment copy ≡ raw_fragment it
copied_fragment it copy is =
    flat_same (λ entry other. IsNamespaceCopy entry.0 other.0 × IsDefinitionCopy RawName AlikeRaw entry.1 other.1)
    (λ entry. raw_declarations (option_map plain_name entry.0) entry.1) each it.0.entries copy.0.entries is
  where
    namespace_same : (one other : Option Name) → IsNamespaceCopy one other → option_map plain_name other ≡ option_map plain_name one
    namespace_same None None both = refl
    namespace_same (Some name) (Some copied) both = ap Some both.0
    namespace_same None (Some copied) both = absurd both
    namespace_same (Some name) None both = absurd both

    each : (entry other : Option Name × NamespaceDefinition RawName)
        → IsNamespaceCopy entry.0 other.0 × IsDefinitionCopy RawName AlikeRaw entry.1 other.1
        → raw_declarations (option_map plain_name other.0) other.1 ≡ raw_declarations (option_map plain_name entry.0) entry.1
    each entry other both =
        ap (λ namespace. raw_declarations namespace other.1) (namespace_same entry.0 other.0 both.0)
        ∙ definition_same (option_map plain_name entry.0) entry.1 other.1 both.1
