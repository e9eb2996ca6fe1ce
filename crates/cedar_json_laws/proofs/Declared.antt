-- What a fragment declares, by its plain data as it was written.
use Rattle.std.proofs.Common.{◌≡◌, Bool, true, false, List, [], ◌∷◌, ◌++◌, map, Option, Some, None, String, Global, string_bytes, option_map, is_some, refl, ap, sym, ◌∙◌}
use Rattle.std.specs.List.{flat_map}
use Rattle.std.specs.declared.vec.Vec.{Vec}
use Rattle.cedar_json_laws.proofs.Placed.{expr_in, reference_in, types_placed}
use Rattle.cedar_json_laws.specs.Words.{ActionBody, ActionEntityUID, ActionReference, ActionType, ApplySpec, Body, CommonType, CommonTypeId, Declaration, Entity, EntityBody, EntityType, EntityTypeKind, Fragment, Name, NamespaceDefinition, PlainName, RawName, Reference, Requests, Text, «Type», UnreservedId, WrittenAction, WrittenDefinition, WrittenEntity, WrittenFragment, WrittenParent, action, action_body, action_declarations, common_declarations, common_type, common_type_text, elsewhere, entity_declarations, entity_type, enumerated, external, kind_body, no_member, parent_action, parent_actions, parent_type, plain_action_type, plain_name, raw_declarations, raw_expr, raw_fragment, raw_reference, record_expr, reference_to, requests, requests_by, standard, unreserved_id_text, written_action, written_definition, written_entity, written_fragment, written_pairs, written_parent, written_requests}
use Rattle.cedar_schema_ast.specs.declared.json_schema.entity_type.EntityTypeKind.TheVariants as variant

module _ (namespace : Option PlainName) where
  -- what is declared of an entity type by what was written, and by whether it is external
  abbrev pub body_in : EntityBody → Bool → EntityBody
  body_in (standard parents shape tags) false =
      standard (map (reference_in namespace) parents) (expr_in namespace shape) (option_map (expr_in namespace) tags)
  body_in (standard parents shape tags) true = external (map (reference_in namespace) parents)
  body_in (enumerated ids) false = enumerated ids
  body_in (enumerated ids) true = external []
  body_in (external parents) is_external = external (map (reference_in namespace) parents)

  -- the type of a parent
  abbrev pub parent_type_in : Option Reference → Reference
  parent_type_in None = reference_to namespace Entity plain_action_type
  parent_type_in (Some reference) = reference_in namespace reference

  -- a parent of an action
  abbrev pub parent_in : WrittenParent → ActionReference
  parent_in it = record { id = it.0; ty = parent_type_in it.1 }

  -- the parents of an action; none where none were written
  abbrev pub parents_in : Option (List WrittenParent) → List ActionReference
  parents_in None = []
  parents_in (Some parents) = map parent_in parents

  -- the requests that an action is for
  abbrev pub requests_in : Requests → Requests
  requests_in (requests principals resources context) =
      requests (map (reference_in namespace) principals) (map (reference_in namespace) resources) (expr_in namespace context)
  requests_in elsewhere = elsewhere

  -- and by whether it is external
  abbrev pub applies_to_in : Bool → Option Requests → Requests
  applies_to_in true it = elsewhere
  applies_to_in false None = requests [] [] (record_expr no_member false)
  applies_to_in false (Some it) = requests_in it

  -- what is declared of an action
  abbrev pub action_in : WrittenAction → ActionBody
  action_in it = record {
    has_attributes = is_some it.attributes;
    parents = parents_in it.member_of;
    applies_to = applies_to_in it.external it.applies_to;
  }

  -- a declaration of what was written under an id
  abbrev pub declared : {A : Type 0} → (A → Body) → Text × A → Declaration
  declared body entry = record { namespace = namespace; id = entry.0; body = body entry.1 }

  -- the declarations of a definition
  abbrev pub declarations_in : WrittenDefinition → List Declaration
  declarations_in it =
      map (declared (λ ty. common_type (expr_in namespace ty))) it.common_types
      ++ map (declared (λ (it : WrittenEntity). entity_type (body_in it.body it.external))) it.entity_types
      ++ map (declared (λ it. action (action_in it))) it.actions

  references_placed : (names : List RawName)
      → map (raw_reference namespace Entity) names ≡ map (reference_in namespace) (map (raw_reference None Entity) names)
  references_placed [] = refl
  references_placed (name ∷ rest) = ap (λ references. raw_reference namespace Entity name ∷ references) (references_placed rest)

  tags_placed : (tags : Option («Type» RawName)) → option_map (raw_expr namespace) tags ≡ option_map (expr_in namespace) (option_map (raw_expr None) tags)
  tags_placed None = refl
  tags_placed (Some ty) = ap Some (types_placed namespace ty)

  -- an entity type declares what it does as it was written
  kind_placed : (kind : EntityTypeKind RawName) (is_external : Bool)
      → kind_body RawName (raw_reference namespace) kind is_external ≡ body_in (kind_body RawName (raw_reference None) kind false) is_external
  kind_placed (variant.Standard it) false = λ i.
      standard (references_placed it.member_of_types.items i) (types_placed namespace it.shape.0 i) (tags_placed it.tags i)
  kind_placed (variant.Standard it) true = ap external (references_placed it.member_of_types.items)
  kind_placed (variant.Enum choices) false = refl
  kind_placed (variant.Enum choices) true = refl

  parent_placed : (it : ActionEntityUID RawName) (ty : Option RawName)
      → parent_type RawName (raw_reference namespace) namespace ty ≡ parent_type_in (option_map (raw_reference None Entity) ty)
  parent_placed it None = refl
  parent_placed it (Some name) = refl

  parents_placed : (parents : List (ActionEntityUID RawName))
      → map (parent_action RawName (raw_reference namespace) namespace) parents ≡ map parent_in (map written_parent parents)
  parents_placed [] = refl
  parents_placed (it ∷ rest) = λ i. record { id = string_bytes it.id; ty = parent_placed it it.ty i } ∷ parents_placed rest i

  groups_placed : (parents : Option (Vec (ActionEntityUID RawName) Global))
      → parent_actions RawName (raw_reference namespace) namespace parents
      ≡ parents_in (option_map (λ (each : Vec (ActionEntityUID RawName) Global). map written_parent each.items) parents)
  groups_placed None = refl
  groups_placed (Some parents) = parents_placed parents.items

  requests_placed : (is_external : Bool) (it : Option (ApplySpec RawName))
      → requests_by RawName (raw_reference namespace) namespace is_external it ≡ applies_to_in is_external (option_map written_requests it)
  requests_placed true it = refl
  requests_placed false None = refl
  requests_placed false (Some it) = λ i.
      requests (references_placed it.principal_types.items i) (references_placed it.resource_types.items i) (types_placed namespace it.context.0 i)

  there_alike : {A B : Type 0} (f : A → B) (it : Option A) → is_some it ≡ is_some (option_map f it)
  there_alike f None = refl
  there_alike f (Some it) = refl

  -- an action declares what it does as it was written
  action_placed : (it : ActionType RawName) → action_body RawName (raw_reference namespace) namespace it ≡ action_in (written_action it)
  action_placed it = λ i. record {
    has_attributes = there_alike written_pairs it.attributes i;
    parents = groups_placed it.member_of i;
    applies_to = requests_placed it.external it.applies_to i;
  }

  common_placed : (entries : List (CommonTypeId × CommonType RawName))
      → common_declarations RawName (raw_reference namespace) namespace entries
      ≡ map (declared (λ ty. common_type (expr_in namespace ty))) (map (λ entry. (common_type_text entry.0, raw_expr None entry.1.ty)) entries)
  common_placed [] = refl
  common_placed (entry ∷ rest) = λ i.
      declared (λ ty. common_type ty) (common_type_text entry.0, types_placed namespace entry.1.ty i) ∷ common_placed rest i

  entities_placed : (entries : List (UnreservedId × EntityType RawName))
      → entity_declarations RawName (raw_reference namespace) namespace entries
      ≡ map (declared (λ (it : WrittenEntity). entity_type (body_in it.body it.external))) (map (λ entry. (unreserved_id_text entry.0, written_entity entry.1)) entries)
  entities_placed [] = refl
  entities_placed (entry ∷ rest) = λ i.
      declared (λ body. entity_type body) (unreserved_id_text entry.0, kind_placed entry.1.kind entry.1.external i) ∷ entities_placed rest i

  actions_placed : (entries : List (String Global × ActionType RawName))
      → action_declarations RawName (raw_reference namespace) namespace entries
      ≡ map (declared (λ it. action (action_in it))) (map (λ entry. (string_bytes entry.0, written_action entry.1)) entries)
  actions_placed [] = refl
  actions_placed (entry ∷ rest) = λ i.
      declared (λ body. action body) (string_bytes entry.0, action_placed entry.1 i) ∷ actions_placed rest i

  -- a definition declares what it does as it was written
  definition_placed : (it : NamespaceDefinition RawName) → raw_declarations namespace it ≡ declarations_in (written_definition it)
  definition_placed it = λ i.
      common_placed it.common_types.entries i ++ entities_placed it.entity_types.entries i ++ actions_placed it.actions.entries i

-- the declarations of a fragment, by its plain data
abbrev pub declared_of : WrittenFragment → List Declaration
declared_of it = flat_map (λ (entry : Option PlainName × WrittenDefinition). declarations_in entry.0 entry.1) it

pub fragment_declares : (entries : List (Option Name × NamespaceDefinition RawName))
    → flat_map (λ (entry : Option Name × NamespaceDefinition RawName). raw_declarations (option_map plain_name entry.0) entry.1) entries
    ≡ declared_of (map (λ entry. (option_map plain_name entry.0, written_definition entry.1)) entries)
fragment_declares [] = refl
fragment_declares (entry ∷ rest) = λ i. definition_placed (option_map plain_name entry.0) entry.1 i ++ fragment_declares rest i

-- fragments that were written alike declare the same
pub declares_alike : (a b : Fragment RawName) → written_fragment a ≡ written_fragment b → raw_fragment a ≡ raw_fragment b
declares_alike a b same = fragment_declares a.0.entries ∙ (ap declared_of same ∙ sym (fragment_declares b.0.entries))
