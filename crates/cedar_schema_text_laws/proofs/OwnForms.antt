-- Fragments that were read of texts: they can be written, and are their own text forms.
use Rattle.std.proofs.Common.{◌≡◌, ℕ, ◌≤◌, true, false, cond, List, [], ◌∷◌, ◌++◌, map, Option, Some, None, option_map, String, Global, string_bytes, nat_lt, refl, sym, ap, subst, ◌∙◌, arith}
use Rattle.std.proofs.lemmas.Bool.Decides.{nat_tests}
use Rattle.std.proofs.lemmas.Simd.{map-map}
use Rattle.std.specs.List.{AllByRecursion}
use Rattle.std.specs.Option.{option_or}
use Rattle.std.specs.declared.vec.Vec.{Vec}
use Rattle.cedar_ast.specs.Words.{PlainName, Text, plain_name, unreserved_id_text}
use Rattle.cedar_ast.specs.declared.name.Name as code_name
use Rattle.cedar_ast.specs.declared.unreserved_id.UnreservedId.{UnreservedId}
use Rattle.cedar_json.specs.ActionFormat.{written_action, written_pairs, written_parent, written_requests}
use Rattle.cedar_json.specs.DefinitionFormat.{written_definition, written_fragment}
use Rattle.cedar_json.specs.EntityFormat.{written_entity, written_kind}
use Rattle.cedar_schema_ast.specs.Words.{common_type_text, member, raw_expr, raw_reference, record_expr, requests, set_expr, standard, type_nesting}
use Rattle.cedar_schema_ast.specs.declared.json_schema.action_type.ActionEntityUID.{ActionEntityUID}
use Rattle.cedar_schema_ast.specs.declared.json_schema.action_type.ActionType.{ActionType}
use Rattle.cedar_schema_ast.specs.declared.json_schema.action_type.ApplySpec.{ApplySpec}
use Rattle.cedar_schema_ast.specs.declared.json_schema.common_type_id.CommonTypeId.{CommonTypeId}
use Rattle.cedar_schema_ast.specs.declared.json_schema.entity_type.EntityType.{EntityType}
use Rattle.cedar_schema_ast.specs.declared.json_schema.entity_type.EntityTypeKind.{EntityTypeKind}
use Rattle.cedar_schema_ast.specs.declared.json_schema.entity_type.EntityTypeKind.TheVariants as kind
use Rattle.cedar_schema_ast.specs.declared.json_schema.fragment.CommonType.{CommonType}
use Rattle.cedar_schema_ast.specs.declared.json_schema.fragment.Fragment.{Fragment}
use Rattle.cedar_schema_ast.specs.declared.json_schema.fragment.NamespaceDefinition.{NamespaceDefinition}
use Rattle.cedar_schema_ast.specs.declared.json_schema.raw_name.RawName.{RawName}
use Rattle.cedar_schema_ast.specs.declared.json_schema.reference_type.ReferenceType.TheVariants.{Entity}
use Rattle.cedar_schema_ast.specs.declared.json_schema.type_of.Type.{«Type»}
use Rattle.cedar_schema_text.specs.Placed.{ActionAt, CommonTypeAt, DefinitionAt, EntityTypeAt, FieldsAt, FragmentAt, KindAt, RequestsAt, TypeAt, common_type, either_type, field, no_field, other_type, record_type, set_type, standard_kind}
use Rattle.cedar_schema_text.specs.Placed.{enumerated as enumerated_kind}
use Rattle.cedar_schema_text.specs.Shown.{action_shown, common_type_shown, definition_shown, entity_type_shown, fragment_shown, kind_shown, name_shown, namespace_shown, parent_shown, requests_shown, type_shown}
use Rattle.cedar_schema_text_laws.proofs.ActionTexts.{none_there}
use Rattle.cedar_schema_text_laws.proofs.DefinitionTexts.{action_entry, common_entry, entity_entry}
use Rattle.cedar_schema_text_laws.proofs.OfTexts.{AllValues, ArePlain, GoodAction, GoodContext, GoodDefinition, GoodIf, GoodKind, GoodNamespace, GoodRequests, GoodShape, GoodType, IsPlain, IsRecordAt}
use Rattle.cedar_json_laws.proofs.Placed.{expr_in, members_in, types_placed}
use Rattle.cedar_schema_text_laws.proofs.Said.{action_said, definition_said, entity_said, fields_said, fragment_said, kind_said, namespace_said, parent_said, requests_said, type_said}
use Rattle.cedar_schema_text_laws.proofs.ShownTypes.{AreTextual, IsTextual, nest_raw, raw_said}
use Rattle.cedar_schema_text_laws.proofs.TypeTexts.{nest}
use Rattle.cedar_schema_text_laws.specs.TextForm.{action_form, body_form, context_form, definition_form, entity_form, fragment_form, members_form, requests_form, type_form}
use Rattle.cedar_schema_text_writer.specs.Flaws.{action_flaw, action_id, applies_to_flaw, common_id, common_type_flaw, context_flaw, context_name_flaw, declared_flaw, definition_flaw, entity_id, entity_kind_flaw, entity_type_flaw, form_flaw, found, found_in, is_record, members_flaw, most_levels, namespaces_flaw, open_flaw, shape_flaw, tags_flaw, type_flaw}
use Rattle.cedar_schema_text_writer.specs.Names.{First}
use Rattle.cedar_schema_text_writer.specs.declared.fault.Part.{Part}
use Rattle.cedar_schema_text_writer.specs.declared.fault.Part.TheVariants as part
use Rattle.cedar_schema_text_writer.specs.declared.fault.Unwritable.TheVariants as what

-- ---- what was read says what it is shown as

mutual
  plain_textual : (ty : TypeAt) → IsPlain ty → IsTextual ty
  plain_textual (common_type name loc) plain = absurd plain
  plain_textual (either_type name loc) plain = tt
  plain_textual (set_type element loc) plain = plain_textual element plain
  plain_textual (record_type fields additional loc) plain = plain_fields fields plain.1
  plain_textual other_type plain = absurd plain

  plain_fields : (fields : FieldsAt) → ArePlain fields → AreTextual fields
  plain_fields no_field plain = tt
  plain_fields (field name ty required loc rest) plain = (plain_textual ty plain.0, plain_fields rest plain.1)

context_textual : (ty : TypeAt) → GoodContext ty → IsTextual ty
context_textual (common_type name loc) good = tt
context_textual (record_type fields additional loc) good = plain_textual (record_type fields additional loc) good.0
context_textual _ good = absurd good

type_says : (ty : «Type» RawName) → GoodType (type_shown ty) → raw_expr None ty ≡ type_said (type_shown ty)
type_says ty good = raw_said ty (plain_textual (type_shown ty) good.0)

tags_say : (tags : Option («Type» RawName)) → GoodIf (option_map type_shown tags)
    → option_map (raw_expr None) tags ≡ option_map type_said (option_map type_shown tags)
tags_say None good = refl
tags_say (Some ty) good = ap Some (type_says ty good)

kind_says : (it : EntityTypeKind RawName) → GoodKind (kind_shown it) → written_kind it ≡ kind_said (kind_shown it)
kind_says (kind.Enum ids) good = refl
kind_says (kind.Standard it) good = λ i.
    standard (sym (map-map entity_said name_shown it.member_of_types.items) i) (type_says it.shape.0 good.0.1 i) (tags_say it.tags good.1 i)

requests_say : (it : Option (ApplySpec RawName)) → GoodRequests (option_map requests_shown it)
    → option_map written_requests it ≡ option_map requests_said (option_map requests_shown it)
requests_say None good = refl
requests_say (Some it) good = λ i. Some (requests (sym (map-map entity_said name_shown it.principal_types.items) i)
    (sym (map-map entity_said name_shown it.resource_types.items) i) (raw_said it.context.0 (context_textual (type_shown it.context.0) good) i))

type_of_parent : (ty : Option RawName) → option_map entity_said (option_map name_shown ty) ≡ option_map (raw_reference None Entity) ty
type_of_parent None = refl
type_of_parent (Some name) = refl

parents_say : (items : List (ActionEntityUID RawName)) → map written_parent items ≡ map parent_said (map parent_shown items)
parents_say [] = refl
parents_say (it ∷ rest) = λ i. (string_bytes it.id, sym (type_of_parent it.ty) i) ∷ parents_say rest i

members_say : (it : Option (Vec (ActionEntityUID RawName) Global))
    → option_map (λ (v : Vec (ActionEntityUID RawName) Global). map written_parent v.items) it
    ≡ option_map (map parent_said) (option_map (λ (v : Vec (ActionEntityUID RawName) Global). map parent_shown v.items) it)
members_say None = refl
members_say (Some v) = ap Some (parents_say v.items)

action_says : (it : ActionType RawName) → GoodAction (action_shown it) → written_action it ≡ action_said (action_shown it)
action_says it good = λ i. record {
  attributes = ap (option_map written_pairs) (none_there it.attributes good.0) i;
  applies_to = requests_say it.applies_to good.1 i;
  member_of = members_say it.member_of i;
  external = it.external;
}

commons_say : (entries : List (CommonTypeId × CommonType RawName))
    → AllValues (λ (it : CommonTypeAt). GoodType it.ty) (map (λ entry. (common_type_text entry.0, common_type_shown entry.1)) entries)
    → map (λ entry. (common_type_text entry.0, raw_expr None entry.1.ty)) entries
    ≡ map common_entry (map (λ entry. (common_type_text entry.0, common_type_shown entry.1)) entries)
commons_say [] good = refl
commons_say (entry ∷ rest) good = λ i. (common_type_text entry.0, type_says entry.1.ty good.0 i) ∷ commons_say rest good.1 i

entities_say : (entries : List (UnreservedId × EntityType RawName))
    → AllValues (λ (it : EntityTypeAt). GoodKind it.kind) (map (λ entry. (unreserved_id_text entry.0, entity_type_shown entry.1)) entries)
    → map (λ entry. (unreserved_id_text entry.0, written_entity entry.1)) entries
    ≡ map entity_entry (map (λ entry. (unreserved_id_text entry.0, entity_type_shown entry.1)) entries)
entities_say [] good = refl
entities_say (entry ∷ rest) good = λ i.
    (unreserved_id_text entry.0, record { body = kind_says entry.1.kind good.0 i; external = entry.1.external }) ∷ entities_say rest good.1 i

actions_say : (entries : List (String Global × ActionType RawName))
    → AllValues GoodAction (map (λ entry. (string_bytes entry.0, action_shown entry.1)) entries)
    → map (λ entry. (string_bytes entry.0, written_action entry.1)) entries
    ≡ map action_entry (map (λ entry. (string_bytes entry.0, action_shown entry.1)) entries)
actions_say [] good = refl
actions_say (entry ∷ rest) good = λ i. (string_bytes entry.0, action_says entry.1 good.0 i) ∷ actions_say rest good.1 i

definition_says : (it : NamespaceDefinition RawName) → GoodDefinition (definition_shown it) → written_definition it ≡ definition_said (definition_shown it)
definition_says it good = λ i. record {
  common_types = commons_say it.common_types.entries good.commons i;
  entity_types = entities_say it.entity_types.entries good.entities i;
  actions = actions_say it.actions.entries good.actions i;
}

name_says : (name : Option code_name.Name) → option_map plain_name name ≡ namespace_said (option_map namespace_shown name)
name_says None = refl
name_says (Some name) = refl

abbrev Entries : Type 0
Entries = List (Option code_name.Name × NamespaceDefinition RawName)

-- namespaces with their places
abbrev entries_at : Entries → FragmentAt
entries_at entries = map (λ entry. (option_map namespace_shown entry.0, definition_shown entry.1)) entries

namespaces_say : (entries : Entries) → AllByRecursion GoodNamespace (entries_at entries)
    → map (λ (entry : Option code_name.Name × NamespaceDefinition RawName). (option_map plain_name entry.0, written_definition entry.1)) entries
    ≡ fragment_said (entries_at entries)
namespaces_say [] good = refl
namespaces_say (entry ∷ rest) good = λ i. (name_says entry.0 i, definition_says entry.1 good.0.0 i) ∷ namespaces_say rest good.1 i

-- the plain data of a fragment that was read is what it says
pub fragment_says : (it : Fragment RawName) → AllByRecursion GoodNamespace (fragment_shown it) → written_fragment it ≡ fragment_said (fragment_shown it)
fragment_says it good = namespaces_say it.0.entries good

-- ---- it is its own text form

module _ (first : First) where
  module _ (namespace : Option PlainName) where
    mutual
      type_own : (ty : TypeAt) → IsPlain ty → type_form first namespace (type_said ty) ≡ type_said ty
      type_own (common_type name loc) plain = absurd plain
      type_own (either_type name loc) plain = refl
      type_own (set_type element loc) plain = ap set_expr (type_own element plain)
      type_own (record_type fields additional loc) plain = ap (λ members. record_expr members additional) (fields_own fields plain.1)
      type_own other_type plain = absurd plain

      fields_own : (fields : FieldsAt) → ArePlain fields → members_form first namespace (fields_said fields) ≡ fields_said fields
      fields_own no_field plain = refl
      fields_own (field name ty required loc rest) plain = λ i. member name required (type_own ty plain.0 i) (fields_own rest plain.1 i)

    context_own : (ty : TypeAt) → GoodContext ty → context_form first namespace (type_said ty) ≡ type_said ty
    context_own (common_type name loc) good = refl
    context_own (record_type fields additional loc) good = type_own (record_type fields additional loc) good.0
    context_own _ good = absurd good

    tags_own : (tags : Option TypeAt) → GoodIf tags → option_map (type_form first namespace) (option_map type_said tags) ≡ option_map type_said tags
    tags_own None good = refl
    tags_own (Some ty) good = ap Some (type_own ty good.0)

    kind_own : (it : KindAt) → GoodKind it → body_form first namespace (kind_said it) ≡ kind_said it
    kind_own (enumerated_kind ids) good = refl
    kind_own (standard_kind parents shape tags) good = λ i. standard (map entity_said parents) (type_own shape good.0.1.0 i) (tags_own tags good.1 i)

    requests_own : (it : Option RequestsAt) → GoodRequests it → option_map (requests_form first namespace) (option_map requests_said it) ≡ option_map requests_said it
    requests_own None good = refl
    requests_own (Some it) good = λ i. Some (requests (map entity_said it.principals) (map entity_said it.resources) (context_own it.context good i))

    commons_own : (entries : List (Text × CommonTypeAt)) → AllValues (λ (it : CommonTypeAt). GoodType it.ty) entries
        → map (λ entry. (entry.0, type_form first namespace entry.1)) (map common_entry entries) ≡ map common_entry entries
    commons_own [] good = refl
    commons_own (entry ∷ rest) good = λ i. (entry.0, type_own entry.1.ty good.0.0 i) ∷ commons_own rest good.1 i

    entities_own : (entries : List (Text × EntityTypeAt)) → AllValues (λ (it : EntityTypeAt). GoodKind it.kind) entries
        → map (λ entry. (entry.0, entity_form first namespace entry.1)) (map entity_entry entries) ≡ map entity_entry entries
    entities_own [] good = refl
    entities_own (entry ∷ rest) good = λ i. (entry.0, record { body = kind_own entry.1.kind good.0 i; external = entry.1.external }) ∷ entities_own rest good.1 i

    actions_own : (entries : List (Text × ActionAt)) → AllValues GoodAction entries
        → map (λ entry. (entry.0, action_form first namespace entry.1)) (map action_entry entries) ≡ map action_entry entries
    actions_own [] good = refl
    actions_own (entry ∷ rest) good = λ i. (
      entry.0,
      record {
        attributes = None;
        applies_to = requests_own entry.1.applies_to good.0.1 i;
        member_of = option_map (map parent_said) entry.1.member_of;
        external = entry.1.external;
      },
    ) ∷ actions_own rest good.1 i

    definition_own : (it : DefinitionAt) → GoodDefinition it → definition_form first namespace (definition_said it) ≡ definition_said it
    definition_own it good = λ i. record {
      common_types = commons_own it.common_types good.commons i;
      entity_types = entities_own it.entity_types good.entities i;
      actions = actions_own it.actions good.actions i;
    }

  pub fragment_own : (it : FragmentAt) → AllByRecursion GoodNamespace it → fragment_form first (fragment_said it) ≡ fragment_said it
  fragment_own [] good = refl
  fragment_own ((None, it) ∷ rest) good =
      ap (λ test. cond test [] ((None, definition_form first None (definition_said it)) ∷ []) ++ fragment_form first (fragment_said rest)) good.0.1
      ∙ (λ i. (None, definition_own None it good.0.0 i) ∷ fragment_own rest good.1 i)
  fragment_own ((Some name, it) ∷ rest) good = λ i. (Some name.name, definition_own (Some name.name) it good.0.0 i) ∷ fragment_own rest good.1 i

-- ---- it can be written

not_above : (a b : ℕ) → b ≤ a → nat_lt a b ≡ false
not_above a b few = grind (arith, nat_tests)

module _ (first : First) where
  module _ (namespace : Option PlainName) where
    mutual
      form_flawless : (in_part : Part) (ty : TypeAt) → IsPlain ty → form_flaw first in_part (expr_in namespace (type_said ty)) ≡ None
      form_flawless in_part (common_type name loc) plain = absurd plain
      form_flawless in_part (either_type name loc) plain = refl
      form_flawless in_part (set_type element loc) plain = form_flawless in_part element plain
      form_flawless in_part (record_type fields additional loc) plain = λ i. option_or (open_flaw in_part (plain.0 i)) (fields_flawless in_part fields plain.1 i)
      form_flawless in_part other_type plain = absurd plain

      fields_flawless : (in_part : Part) (fields : FieldsAt) → ArePlain fields → members_flaw first in_part (members_in namespace (fields_said fields)) ≡ None
      fields_flawless in_part no_field plain = refl
      fields_flawless in_part (field name ty required loc rest) plain = λ i. option_or (form_flawless in_part ty plain.0 i) (fields_flawless in_part rest plain.1 i)

    -- what a type that was read is in the namespace
    type_placed : (ty : «Type» RawName) → IsTextual (type_shown ty) → raw_expr namespace ty ≡ expr_in namespace (type_said (type_shown ty))
    type_placed ty textual = types_placed namespace ty ∙ ap (expr_in namespace) (raw_said ty textual)

    type_flawless : (in_part : Part) (ty : «Type» RawName) → GoodType (type_shown ty) → type_flaw first namespace in_part ty ≡ None
    type_flawless in_part ty good =
        let textual = plain_textual (type_shown ty) good.0 in
        let levels : type_nesting RawName ty ≤ 128 = subst (λ n. n ≤ 128) (sym (ap nest (raw_said ty textual)) ∙ nest_raw ty) good.1 in
        ap (λ test. cond test (found what.TooDeep in_part) (form_flaw first in_part (raw_expr namespace ty))) (not_above most_levels (type_nesting RawName ty) levels)
        ∙ (ap (form_flaw first in_part) (type_placed ty textual) ∙ form_flawless in_part (type_shown ty) good.0)

    record_there : (ty : TypeAt) → IsRecordAt ty → is_record (expr_in namespace (type_said ty)) ≡ true
    record_there (record_type fields additional loc) is = refl
    record_there _ is = absurd is

    shape_flawless : (ty : «Type» RawName) → GoodShape (type_shown ty) → shape_flaw first namespace ty ≡ None
    shape_flawless ty good =
        let textual = plain_textual (type_shown ty) good.1.0 in
        ap (λ test. cond test (type_flaw first namespace part.Shape ty) (found what.ShapeIsNoRecord part.Shape))
        (ap is_record (type_placed ty textual) ∙ record_there (type_shown ty) good.0)
        ∙ type_flawless part.Shape ty good.1

    context_by : (ty : «Type» RawName) (at : TypeAt) → type_shown ty ≡ at → GoodContext at → context_flaw first namespace ty ≡ None
    context_by ty (common_type name loc) is good =
        let placed : raw_expr namespace ty ≡ expr_in namespace (type_said (common_type name loc)) =
        type_placed ty (subst IsTextual (sym is) tt) ∙ ap (λ at. expr_in namespace (type_said at)) is in
        ap (λ e. cond (is_record e) (type_flaw first namespace part.Context ty) (context_name_flaw first e)) placed
    context_by ty (record_type fields additional loc) is good =
        let textual = subst IsTextual (sym is) (plain_textual (record_type fields additional loc) good.0) in
        let placed : raw_expr namespace ty ≡ expr_in namespace (type_said (record_type fields additional loc)) =
        type_placed ty textual ∙ ap (λ at. expr_in namespace (type_said at)) is in
        ap (λ e. cond (is_record e) (type_flaw first namespace part.Context ty) (context_name_flaw first e)) placed
        ∙ type_flawless part.Context ty (subst GoodType (sym is) good)
    context_by ty _ is good = absurd good

    tags_flawless : (tags : Option («Type» RawName)) → GoodIf (option_map type_shown tags) → tags_flaw first namespace tags ≡ None
    tags_flawless None good = refl
    tags_flawless (Some ty) good = type_flawless part.Tags ty good

    kind_flawless : (it : EntityTypeKind RawName) → GoodKind (kind_shown it) → entity_kind_flaw first namespace it ≡ None
    kind_flawless (kind.Enum ids) good = refl
    kind_flawless (kind.Standard it) good = λ i. option_or (shape_flawless it.shape.0 good.0 i) (tags_flawless it.tags good.1 i)

    requests_flawless : (it : Option (ApplySpec RawName)) → GoodRequests (option_map requests_shown it) → applies_to_flaw first namespace it ≡ None
    requests_flawless None good = refl
    requests_flawless (Some it) good = context_by it.context.0 (type_shown it.context.0) refl good

    action_flawless : (it : ActionType RawName) → GoodAction (action_shown it) → action_flaw first namespace it ≡ None
    action_flawless it good =
        ap (λ test. cond test (found what.Attributes part.Attributes) (applies_to_flaw first namespace it.applies_to)) good.0 ∙ requests_flawless it.applies_to good.1

    commons_flawless : (entries : List (CommonTypeId × CommonType RawName))
        → AllValues (λ (it : CommonTypeAt). GoodType it.ty) (map (λ entry. (common_type_text entry.0, common_type_shown entry.1)) entries)
        → declared_flaw namespace (λ id. common_id (common_type_text id)) (common_type_flaw first namespace) entries ≡ None
    commons_flawless [] good = refl
    commons_flawless (entry ∷ rest) good = λ i.
        option_or (found_in namespace (common_id (common_type_text entry.0)) (type_flawless part.Definition entry.1.ty good.0 i)) (commons_flawless rest good.1 i)

    entities_flawless : (entries : List (UnreservedId × EntityType RawName))
        → AllValues (λ (it : EntityTypeAt). GoodKind it.kind) (map (λ entry. (unreserved_id_text entry.0, entity_type_shown entry.1)) entries)
        → declared_flaw namespace (λ id. entity_id (unreserved_id_text id)) (entity_type_flaw first namespace) entries ≡ None
    entities_flawless [] good = refl
    entities_flawless (entry ∷ rest) good = λ i.
        option_or (found_in namespace (entity_id (unreserved_id_text entry.0)) (kind_flawless entry.1.kind good.0 i)) (entities_flawless rest good.1 i)

    actions_flawless : (entries : List (String Global × ActionType RawName))
        → AllValues GoodAction (map (λ entry. (string_bytes entry.0, action_shown entry.1)) entries)
        → declared_flaw namespace (λ id. action_id (string_bytes id)) (action_flaw first namespace) entries ≡ None
    actions_flawless [] good = refl
    actions_flawless (entry ∷ rest) good = λ i.
        option_or (found_in namespace (action_id (string_bytes entry.0)) (action_flawless entry.1 good.0 i)) (actions_flawless rest good.1 i)

    definition_flawless : (it : NamespaceDefinition RawName) → GoodDefinition (definition_shown it) → definition_flaw first namespace it ≡ None
    definition_flawless it good = λ i.
        option_or (commons_flawless it.common_types.entries good.commons i)
        (option_or (entities_flawless it.entity_types.entries good.entities i) (actions_flawless it.actions.entries good.actions i))

  pub namespaces_flawless : (entries : Entries) → AllByRecursion GoodNamespace (entries_at entries) → namespaces_flaw first entries ≡ None
  namespaces_flawless [] good = refl
  namespaces_flawless (entry ∷ rest) good = λ i.
      option_or (definition_flawless (option_map plain_name entry.0) entry.1 good.0.0 i) (namespaces_flawless rest good.1 i)
