-- The types of declared schemas are clean: what an expression is elaborated as has no any-set.
use Rattle.std.proofs.Common.{◌≡◌, Option, None, Some, inl, inr, subst}
use Rattle.cedar_schema_laws.specs.Words.{ActionKind, AreClean, AreDeclaredTags, DeclaredTypesAreClean, Defined, ElaboratesTo, EntityBody, EntityTypeKind, Expr, Fields, IsClean, IsContextOf, IsDeclaredActionKind, IsDeclaredKind, IsTypeOfKind, Members, MembersElaborateTo, Requests, Ty, as_common, as_entity, as_extension, as_long, as_member, as_no_member, as_record, as_set, as_text, as_truth, defined_action, elsewhere, requests, standard, standard_kind}

mutual
  -- a type that is elaborated is clean
  pub elaborated_clean : (defined : Defined) (expr : Expr) (ty : Ty) → ElaboratesTo defined expr ty → IsClean ty
  elaborated_clean defined _ _ as_text = tt
  elaborated_clean defined _ _ as_long = tt
  elaborated_clean defined _ _ as_truth = tt
  elaborated_clean defined _ _ (as_set written) = elaborated_clean defined _ _ written
  elaborated_clean defined _ _ (as_record written) = members_clean defined _ _ written
  elaborated_clean defined _ _ (as_entity reference name resolves entity other) = tt
  elaborated_clean defined _ ty (as_common reference name body resolves common written) = elaborated_clean defined body ty written
  elaborated_clean defined _ _ (as_extension name) = tt

  -- and so are the attributes of a record that is
  members_clean : (defined : Defined) (members : Members) (fields : Fields) → MembersElaborateTo defined members fields → AreClean fields
  members_clean defined _ _ as_no_member = tt
  members_clean defined _ _ (as_member written rest) = (elaborated_clean defined _ _ written, members_clean defined _ _ rest)

-- so are declared tags
tags_clean : (defined : Defined) (tags : Option Expr) (given : Option Ty) (ty : Ty) → AreDeclaredTags defined tags given → given ≡ Some ty
    → IsClean ty
tags_clean defined (Some expr) (Some own) ty declared is =
    subst clean_option is (elaborated_clean defined expr own declared)
  where
    clean_option : Option Ty → Type 0
    clean_option None = Unit {0}
    clean_option (Some each) = IsClean each
tags_clean defined None (Some own) ty declared is = absurd declared
tags_clean defined _ None ty declared is = absurd (first_of (assumption, cc))

-- the types of a declared kind of entity types
kind_clean : (defined : Defined) (body : EntityBody) (kind : EntityTypeKind) (ty : Ty) → IsDeclaredKind defined body kind
    → IsTypeOfKind kind ty → IsClean ty
kind_clean defined (standard parents shape tags) (standard_kind fields openness given) ty declared (inl is) =
    rw is (elaborated_clean defined shape _ declared.0)
kind_clean defined (standard parents shape tags) (standard_kind fields openness given) ty declared (inr is) =
    tags_clean defined tags given ty declared.2 is
kind_clean defined _ (standard_kind fields openness given) ty declared is = absurd declared
kind_clean _ _ _ _ declared is = absurd assumption

-- the context of a declared kind of actions
context_clean : (defined : Defined) (applies_to : Requests) (kind : ActionKind) (ty : Ty) → IsDeclaredActionKind defined applies_to kind
    → IsContextOf kind ty → IsClean ty
context_clean defined (requests principals resources context) (defined_action principal_types resource_types own) ty declared is =
    rw is at (elaborated_clean defined context own declared.2)
context_clean defined elsewhere (defined_action principal_types resource_types own) ty declared is = absurd declared
context_clean _ _ _ _ declared is = absurd assumption

-- the types of the schema that a bag declares are clean
pub declared_clean : DeclaredTypesAreClean
declared_clean bag extensions schema declared ty (inl (it, among, is)) =
    let entity = declared.entity_types it among in
    kind_clean _ entity.body it.1.kind ty entity.kind is
declared_clean bag extensions schema declared ty (inr (it, among, is)) =
    let action = declared.actions it among in
    context_clean _ action.applies_to it.1.kind ty action.kind is
