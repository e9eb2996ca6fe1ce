-- What declares the text form of a fragment, as it was written.
use Rattle.std.proofs.Common.{◌≡◌, append-nil, Bool, true, false, ◌&&◌, List, [], ◌∷◌, ◌++◌, cond, map, Option, Some, None, option_map, refl, ap, sym, ◌∙◌}
use Rattle.std.proofs.lemmas.Grind.{flat_map-append}
use Rattle.std.proofs.lemmas.List.{map-append}
use Rattle.cedar_json.specs.DefinitionFormat.{WrittenDefinition, WrittenFragment, written_fragment}
use Rattle.cedar_json.specs.EntityFormat.{WrittenEntity}
use Rattle.cedar_schema_ast.specs.Words.{Body, EntityBody, Expr, Members, Requests, action, common_type, elsewhere, entity_type, enumerated, extension_expr, external, long_expr, member, named, no_member, raw_fragment, record_expr, requests, set_expr, standard, text_expr, truth_expr}
use Rattle.cedar_schema_ast.specs.declared.json_schema.fragment.Fragment.{Fragment}
use Rattle.cedar_schema_ast.specs.declared.json_schema.raw_name.RawName.{RawName}
use Rattle.cedar_json_laws.proofs.Declared.{action_in, applies_to_in, body_in, declarations_in, declared, declared_of, fragment_declares, requests_in}
use Rattle.cedar_json_laws.proofs.Placed.{expr_in, members_in, reference_in}
use Rattle.cedar_schema_text_laws.specs.TextForm.{action_form, body_form, context_form, definition_form, entity_form, fragment_form, is_bare, members_form, namespace_form, requests_form, type_form}
use Rattle.cedar_ast.specs.Words.{PlainName, Text}
use Rattle.cedar_schema_text_meaning.specs.TextForm.{built_in_form, declaration_form, expr_form}
use Rattle.cedar_schema_text_meaning.specs.TextForm.{body_form as declared_form, context_form as declared_context, entity_form as declared_entity, members_form as declared_members, requests_form as declared_requests}
use Rattle.cedar_schema_text_writer.specs.Names.{First, is_none}

module _ (first : First) (namespace : Option PlainName) where
  mutual
    -- the form of a type stands in the namespace for the form of what the type does
    type_declared : (it : Expr) → expr_in namespace (type_form first namespace it) ≡ expr_form (built_in_form first namespace namespace) (expr_in namespace it)
    type_declared text_expr = refl
    type_declared long_expr = refl
    type_declared truth_expr = refl
    type_declared (extension_expr name) = refl
    type_declared (named reference) = refl
    type_declared (set_expr element) = ap set_expr (type_declared element)
    type_declared (record_expr all additional) = ap (λ each. record_expr each additional) (members_declared all)

    members_declared : (all : Members) → members_in namespace (members_form first namespace all)
        ≡ declared_members (built_in_form first namespace namespace) (members_in namespace all)
    members_declared no_member = refl
    members_declared (member name required ty rest) = λ i. member name required (type_declared ty i) (members_declared rest i)

  -- so does that of a context
  context_declared : (it : Expr) → expr_in namespace (context_form first namespace it) ≡ declared_context (built_in_form first namespace namespace) (expr_in namespace it)
  context_declared text_expr = refl
  context_declared long_expr = refl
  context_declared truth_expr = refl
  context_declared (extension_expr name) = refl
  context_declared (named reference) = refl
  context_declared (set_expr element) = type_declared (set_expr element)
  context_declared (record_expr all additional) = type_declared (record_expr all additional)

  tags_declared : (tags : Option Expr) → option_map (expr_in namespace) (option_map (type_form first namespace) tags)
      ≡ option_map (expr_form (built_in_form first namespace namespace)) (option_map (expr_in namespace) tags)
  tags_declared None = refl
  tags_declared (Some ty) = ap Some (type_declared ty)

  -- so do those of entity types, and of actions
  body_declared : (it : EntityBody) (is_external : Bool) → body_in namespace (body_form first namespace it) is_external
      ≡ declared_entity (built_in_form first namespace namespace) (body_in namespace it is_external)
  body_declared (standard parents shape tags) false = λ i. standard (map (reference_in namespace) parents) (type_declared shape i) (tags_declared tags i)
  body_declared (standard parents shape tags) true = refl
  body_declared (enumerated ids) false = refl
  body_declared (enumerated ids) true = refl
  body_declared (external parents) is_external = refl

  requests_declared : (it : Requests) → requests_in namespace (requests_form first namespace it)
      ≡ declared_requests (built_in_form first namespace namespace) (requests_in namespace it)
  requests_declared (requests principals resources context) = ap (requests (map (reference_in namespace) principals) (map (reference_in namespace) resources)) (context_declared context)
  requests_declared elsewhere = refl

  applies_declared : (is_external : Bool) (it : Option Requests) → applies_to_in namespace is_external (option_map (requests_form first namespace) it)
      ≡ declared_requests (built_in_form first namespace namespace) (applies_to_in namespace is_external it)
  applies_declared true it = refl
  applies_declared false None = refl
  applies_declared false (Some it) = requests_declared it

  -- declarations that were made of what was written, and of its form
  module _ {A : Type 0} (body : A → Body) (form : A → A) (same : (it : A) → body (form it) ≡ declared_form (built_in_form first namespace namespace) (body it)) where
    listed_declared : (entries : List (Text × A)) → map (declared namespace body) (map (λ entry. (entry.0, form entry.1)) entries)
        ≡ map (declaration_form first) (map (declared namespace body) entries)
    listed_declared [] = refl
    listed_declared (entry ∷ rest) = λ i.
        record { namespace = namespace; id = entry.0; body = same entry.1 i } ∷ listed_declared rest i

  -- the form of a definition declares the form of what it does
  definition_declared : (it : WrittenDefinition) → declarations_in namespace (definition_form first namespace it)
      ≡ map (declaration_form first) (declarations_in namespace it)
  definition_declared it =
      let form = declaration_form first in
      let commons = map (declared namespace (λ ty. common_type (expr_in namespace ty))) it.common_types in
      let entities = map (declared namespace (λ (each : WrittenEntity). entity_type (body_in namespace each.body each.external))) it.entity_types in
      let actions = map (declared namespace (λ each. action (action_in namespace each))) it.actions in
      (λ i.
      (listed_declared (λ ty. common_type (expr_in namespace ty)) (type_form first namespace) (λ ty. ap common_type (type_declared ty)) it.common_types i
      ++ listed_declared (λ (each : WrittenEntity). entity_type (body_in namespace each.body each.external)) (entity_form first namespace)
      (λ each. ap entity_type (body_declared each.body each.external)) it.entity_types i)
      ++ listed_declared (λ each. action (action_in namespace each)) (action_form first namespace)
      (λ each i. action (record {
        has_attributes = (action_in namespace each).has_attributes;
        parents = (action_in namespace each).parents;
        applies_to = applies_declared each.external each.applies_to i;
      })) it.actions i)
      ∙ (sym (ap (λ list. list ++ map form actions) (map-append form commons entities)) ∙ sym (map-append form (commons ++ entities) actions))

-- nothing is declared in a list without items
nothing_in : {A B : Type 0} (f : A → B) (xs : List A) → is_none xs ≡ true → map f xs ≡ []
nothing_in f [] is = refl
nothing_in f (x ∷ rest) is = absurd cc

both_true : (a b : Bool) → (a && b) ≡ true → (a ≡ true) × (b ≡ true)
both_true true b is = (refl, is)
both_true false b is = absurd cc

module _ (first : First) where
  -- a definition in which nothing is declared declares nothing
  bare_declared : (it : WrittenDefinition) → is_bare it ≡ true → declarations_in None it ≡ []
  bare_declared it is =
      let parts = both_true (is_none it.common_types) _ is in
      let others = both_true (is_none it.entity_types) (is_none it.actions) parts.1 in
      λ i. (nothing_in (declared None (λ ty. common_type (expr_in None ty))) it.common_types parts.0 i
      ++ nothing_in (declared None (λ (each : WrittenEntity). entity_type (body_in None each.body each.external))) it.entity_types others.0 i)
      ++ nothing_in (declared None (λ each. action (action_in None each))) it.actions others.1 i

  namespace_declared : (namespace : Option PlainName) (it : WrittenDefinition) → declared_of (namespace_form first namespace it)
      ≡ map (declaration_form first) (declarations_in namespace it)
  namespace_declared (Some name) it = append-nil (declarations_in (Some name) (definition_form first (Some name) it)) ∙ definition_declared first (Some name) it
  namespace_declared None it = by (is_bare it) refl where
    by : (bare : Bool) → is_bare it ≡ bare → declared_of (cond bare [] ((None, definition_form first None it) ∷ []))
        ≡ map (declaration_form first) (declarations_in None it)
    by true is = sym (ap (map (declaration_form first)) (bare_declared it is))
    by false is = append-nil (declarations_in None (definition_form first None it)) ∙ definition_declared first None it

  -- the form of what was written declares the form of what that does
  forms_declared : (it : WrittenFragment) → declared_of (fragment_form first it) ≡ map (declaration_form first) (declared_of it)
  forms_declared [] = refl
  forms_declared (entry ∷ rest) =
      let form = declaration_form first in
      flat_map-append (λ (each : Option PlainName × WrittenDefinition). declarations_in each.0 each.1) (namespace_form first entry.0 entry.1) (fragment_form first rest)
      ∙ ((λ i. namespace_declared entry.0 entry.1 i ++ forms_declared rest i)
      ∙ sym (map-append form (declarations_in entry.0 entry.1) (declared_of rest)))

  -- a fragment that was written as the form of another declares the form of it
  pub form_is_declared : (it other : Fragment RawName) → written_fragment other ≡ fragment_form first (written_fragment it)
      → raw_fragment other ≡ map (declaration_form first) (raw_fragment it)
  form_is_declared it other same =
      fragment_declares other.0.entries
      ∙ (ap declared_of same ∙ (forms_declared (written_fragment it) ∙ sym (ap (map (declaration_form first)) (fragment_declares it.0.entries))))
