-- What is written of declarations under their names.
use Rattle.std.proofs.Common.{◌≡◌, ◌≢◌, List, [], ◌∷◌, ◌++◌, codes, length, map, Option, Some, None, option_map, refl, ap, sym, subst}
use Rattle.std.specs.BTreeMap.{BTreeMap}
use Rattle.std.specs.List.Sorted.{IsStrictlySortedBy}
use Rattle.std.specs.Map.{keys_of}
use Rattle.std.specs.Option.{option_cmp}
use Rattle.std.specs.declared.cmp.Ordering.{Ordering}
use Rattle.cedar_ast.proofs.Ordered.{IsStrictlySortedBy-map}
use Rattle.cedar_json.proofs.ListLemmas.{no_length}
use Rattle.cedar_json_writer.proofs.WritingLemmas.{MembersShape, fields_after, flaw_left, flaw_right, none_both, object_added}
use Rattle.cedar_json_writer.proofs.WrittenValues.{name_plain}
use Rattle.cedar_json_writer.specs.Keyed.{SoundKeyed}
use Rattle.cedar_json_writer.specs.Words.{AddsField, AddsValue, CommonType, CommonTypeId, Each, Expr, Flaw, IfThere, IsFlawOf, IsFree, IsPlain, Name, NamespaceDefinition, RawName, SoundAction, SoundBody, SoundDeclarations, SoundDefinition, SoundFragment, SoundType, Text, WriteFault, WrittenDefinition, WrittenEntity, action_flaws, body_flaws, common_key, common_type_text, common_types_held, declared_flaws, declared_members, definition_flaws, id_key, keyed_members, name_cmp, optional_member, parts_flaws, plain_name, raw_expr, text_cmp, type_document, type_flaws, written_common_types, written_definition}
use Rattle.json.specs.Json.{Json, object, no_members, member}
use Rattle.json.specs.Token.{Token, begin_object, end_object}

-- declarations that a map holds, each under a key that is shown as a name and written as a text
module _ {K L V A : Type 0} (shown : K → L) (text : L → Text) (view : V → A) (document : A → Json) (flaws : A → List Flaw)
    (Sound : A → Type 0) where
  -- what entries stand for
  abbrev pub plain : List (K × V) → List (L × A)
  plain entries = map (λ entry. (shown entry.0, view entry.1)) entries

  abbrev pub declared_shape : MembersShape (K × V)
  declared_shape = record {
    members = λ entries. keyed_members (map (λ entry. (text entry.0, document entry.1)) (plain entries));
    flaws = λ entries. declared_flaws flaws (plain entries);
    Sound = λ entries. Each (λ entry. Sound entry.1) (plain entries);
    text = λ entry. text (shown entry.0);
    document = λ entry. document (view entry.1);
    flaws_of = λ entry. flaws (view entry.1);
    SoundOne = λ entry. Sound (view entry.1);
    no_more = refl;
    no_flaws = refl;
    none_sound = tt;
    one_more = λ entry rest. refl;
    more_flaws = λ entry rest. refl;
    more_sound = λ entry rest one others. (one, others);
  }

  plain-names : (entries : List (K × V)) → map (λ entry. entry.0) (plain entries) ≡ map shown (keys_of entries)
  plain-names [] = refl
  plain-names (entry ∷ rest) = ap (λ names. shown entry.0 ∷ names) (plain-names rest)

  -- what is free under keys in order is so with its keys
  pub keyed_free : (R : K → K → Ordering) (order : L → L → Ordering) → ((a b : K) → R a b ≡ order (shown a) (shown b))
      → (entries : List (K × V)) → IsStrictlySortedBy R (keys_of entries)
      → IsFree (declared_flaws flaws (plain entries)) (Each (λ entry. Sound entry.1) (plain entries))
      → IsFree (declared_flaws flaws (plain entries)) (SoundKeyed order Sound (plain entries))
  keyed_free R order same entries sorted free = record {
    flawless = free.flawless;
    sound = record {
      in_order = subst (IsStrictlySortedBy order) (sym (plain-names entries))
          (IsStrictlySortedBy-map R order shown same (keys_of entries) sorted);
      each = free.sound;
    };
  }

module _ {K V L A : Type 0} (shown : K → L) (view : V → A) where
  -- what holds of each name as it is shown holds of the entries
  each_shown : (P : L → Type 0) → ((key : K) → P (shown key)) → (entries : List (K × V))
      → Each {A = L × A} (λ entry. P entry.0) (map (λ entry. (shown entry.0, view entry.1)) entries)
  each_shown P holds [] = tt
  each_shown P holds (entry ∷ rest) = (holds entry.0, each_shown P holds rest)

-- declarations that are sound in their order stand under ids
pub declarations_free : {K V A : Type 0} (shown : K → Text) (view : V → A) (read : Text → Option Text)
    → ((id : K) → read (shown id) ≡ Some (shown id)) → (flaws : A → List Flaw) (Sound : A → Type 0) (entries : List (K × V))
    → IsFree (declared_flaws flaws (map (λ entry. (shown entry.0, view entry.1)) entries))
    (SoundKeyed text_cmp Sound (map (λ entry. (shown entry.0, view entry.1)) entries))
    → IsFree (declared_flaws flaws (map (λ entry. (shown entry.0, view entry.1)) entries))
    (SoundDeclarations read Sound (map (λ entry. (shown entry.0, view entry.1)) entries))
declarations_free shown view read is_read flaws Sound entries free = record {
  flawless = free.flawless;
  sound = record {
    in_order = free.sound.in_order;
    under_ids = each_shown shown view (λ (id : Text). read id ≡ Some id) is_read entries;
    each = free.sound.each;
  };
}

namespace_plain : (name : Option Name) → IfThere IsPlain (option_map plain_name name)
namespace_plain None = tt
namespace_plain (Some name) = name_plain name

-- definitions that are sound in their order are a fragment
pub fragment_free : (entries : List (Option Name × NamespaceDefinition RawName))
    → IsFree (parts_flaws (map (λ entry. (option_map plain_name entry.0, written_definition entry.1)) entries))
    (SoundKeyed (option_cmp name_cmp) SoundDefinition (map (λ entry. (option_map plain_name entry.0, written_definition entry.1)) entries))
    → IsFree (parts_flaws (map (λ entry. (option_map plain_name entry.0, written_definition entry.1)) entries))
    (SoundFragment (map (λ entry. (option_map plain_name entry.0, written_definition entry.1)) entries))
fragment_free entries free = record {
  flawless = free.flawless;
  sound = record {
    in_order = free.sound.in_order;
    named = each_shown (option_map plain_name) written_definition (IfThere IsPlain) namespace_plain entries;
    each = free.sound.each;
  };
}

-- where there are no common types there is nothing to write, and it is free
pub no_common_types : (all : BTreeMap CommonTypeId (CommonType RawName)) → length all.entries ≡ 0 → written_common_types all ≡ []
no_common_types all none = ap (map (λ entry. (common_type_text entry.0, raw_expr None entry.1.ty))) (no_length all.entries none)

pub none_free : (it : List (Text × Expr)) → it ≡ [] → IsFree (declared_flaws type_flaws it) (SoundDeclarations common_key SoundType it)
unfolding IsStrictlySortedBy
none_free it none =
    subst (λ (each : List (Text × Expr)). IsFree (declared_flaws type_flaws each) (SoundDeclarations common_key SoundType each)) (sym none)
    (record { flawless = refl; sound = record { in_order = tt; under_ids = tt; each = tt } })

-- where there are some they are written
pub some_common_types : (old new : List Token) (all : BTreeMap CommonTypeId (CommonType RawName)) → length all.entries ≢ 0
    → AddsField old new (codes "commonTypes") (Some (object (declared_members type_document (written_common_types all))))
    → AddsField old new (codes "commonTypes") (common_types_held (written_common_types all))
some_common_types old new all some added = by all.entries some added
  where
    by : (entries : List (CommonTypeId × CommonType RawName)) → length entries ≢ 0
        → AddsField old new (codes "commonTypes") (Some (object (declared_members type_document (map (λ entry. (common_type_text entry.0, raw_expr None entry.1.ty)) entries))))
        → AddsField old new (codes "commonTypes") (common_types_held (map (λ entry. (common_type_text entry.0, raw_expr None entry.1.ty)) entries))
    by [] filled is = absurd (filled refl)
    by (entry ∷ rest) filled is = is

-- the object of a definition
pub definition_added : (old opened entities actions commons new : List Token) (entity_types acts : Json) (common_types : Option Json)
    → opened ≡ old ++ begin_object ∷ [] → AddsField opened entities (codes "entityTypes") (Some entity_types)
    → AddsField entities actions (codes "actions") (Some acts) → AddsField actions commons (codes "commonTypes") common_types
    → new ≡ commons ++ end_object ∷ []
    → AddsValue old new (object (member (codes "entityTypes") entity_types (member (codes "actions") acts
    (optional_member (codes "commonTypes") common_types no_members))))
definition_added old opened entities actions commons new entity_types acts common_types begun one two three ended =
    let e = optional_member (codes "entityTypes") (Some entity_types) in
    let a = optional_member (codes "actions") (Some acts) in
    let c = optional_member (codes "commonTypes") common_types in
    object_added old opened commons new (λ rest. e (a (c rest))) begun
    (fields_after opened actions commons (λ rest. e (a rest)) c (fields_after opened entities actions e a one two) three) ended

pub definition_free : (it : WrittenDefinition)
    → IsFree (declared_flaws type_flaws it.common_types) (SoundDeclarations common_key SoundType it.common_types)
    → IsFree (declared_flaws (λ (entity : WrittenEntity). body_flaws entity.body) it.entity_types)
    (SoundDeclarations id_key (λ (entity : WrittenEntity). SoundBody entity.body) it.entity_types)
    → IsFree (declared_flaws action_flaws it.actions) (SoundDeclarations Some SoundAction it.actions)
    → IsFree (definition_flaws it) (SoundDefinition it)
definition_free it commons entities actions = record {
  flawless = none_both (declared_flaws type_flaws it.common_types)
      (declared_flaws (λ (entity : WrittenEntity). body_flaws entity.body) it.entity_types ++ declared_flaws action_flaws it.actions) commons.flawless
      (none_both (declared_flaws (λ (entity : WrittenEntity). body_flaws entity.body) it.entity_types) (declared_flaws action_flaws it.actions)
      entities.flawless actions.flawless);
  sound = record { common_types = commons.sound; entity_types = entities.sound; actions = actions.sound };
}

pub common_type_flaw : (it : WrittenDefinition) (f : WriteFault) → IsFlawOf (declared_flaws type_flaws it.common_types) f → IsFlawOf (definition_flaws it) f
common_type_flaw it f flawed =
    flaw_left (declared_flaws type_flaws it.common_types)
    (declared_flaws (λ (entity : WrittenEntity). body_flaws entity.body) it.entity_types ++ declared_flaws action_flaws it.actions) f flawed

pub entity_type_flaw : (it : WrittenDefinition) (f : WriteFault) → IsFlawOf (declared_flaws (λ (entity : WrittenEntity). body_flaws entity.body) it.entity_types) f
    → IsFlawOf (definition_flaws it) f
entity_type_flaw it f flawed =
    flaw_right (declared_flaws type_flaws it.common_types)
    (declared_flaws (λ (entity : WrittenEntity). body_flaws entity.body) it.entity_types ++ declared_flaws action_flaws it.actions) f
    (flaw_left (declared_flaws (λ (entity : WrittenEntity). body_flaws entity.body) it.entity_types) (declared_flaws action_flaws it.actions) f flawed)

pub action_flaw : (it : WrittenDefinition) (f : WriteFault) → IsFlawOf (declared_flaws action_flaws it.actions) f → IsFlawOf (definition_flaws it) f
action_flaw it f flawed =
    flaw_right (declared_flaws type_flaws it.common_types)
    (declared_flaws (λ (entity : WrittenEntity). body_flaws entity.body) it.entity_types ++ declared_flaws action_flaws it.actions) f
    (flaw_right (declared_flaws (λ (entity : WrittenEntity). body_flaws entity.body) it.entity_types) (declared_flaws action_flaws it.actions) f flawed)
