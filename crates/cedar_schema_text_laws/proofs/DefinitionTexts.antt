-- Definitions of namespaces as they are written, and the declarations that are read of them.
use Rattle.std.proofs.Common.{◌≡◌, ℕ, ◌≤◌, max, Bool, true, false, ◌&&◌, List, [], ◌∷◌, ◌++◌, map, Option, None, String, Global, string_bytes, refl, sym, ap, subst, ◌∙◌, arith, append_assoc}
use Rattle.std.proofs.lemmas.Simd.{map-map}
use Rattle.std.specs.List.{AllByRecursion, flat_map}
use Rattle.std.specs.List.Sorted.{IsStrictlySortedBy}
use Rattle.std.specs.Option.{option_or}
use Rattle.cedar_ast.proofs.Texts.{text_cmp-total}
use Rattle.cedar_ast.specs.Words.{PlainName, Text, text_cmp, unreserved_id_text}
use Rattle.cedar_ast.specs.declared.loc.Loc.{Loc}
use Rattle.cedar_ast.specs.declared.unreserved_id.UnreservedId.{UnreservedId}
use Rattle.cedar_json.specs.ActionFormat.{WrittenAction, written_action}
use Rattle.cedar_json.specs.EntityFormat.{WrittenEntity, written_entity}
use Rattle.cedar_schema_ast.specs.Words.{Expr, common_type_text, raw_expr}
use Rattle.cedar_schema_ast.specs.declared.json_schema.action_type.ActionType.{ActionType}
use Rattle.cedar_schema_ast.specs.declared.json_schema.common_type_id.CommonTypeId.{CommonTypeId}
use Rattle.cedar_schema_ast.specs.declared.json_schema.entity_type.EntityType.{EntityType}
use Rattle.cedar_schema_ast.specs.declared.json_schema.fragment.CommonType.{CommonType}
use Rattle.cedar_schema_ast.specs.declared.json_schema.fragment.NamespaceDefinition.{NamespaceDefinition}
use Rattle.cedar_schema_ast.specs.declared.json_schema.raw_name.RawName.{RawName}
use Rattle.cedar_schema_grammar.specs.Grammar.{Form, IsDeclaration, many, ◌then◌}
use Rattle.cedar_schema_grammar.specs.Tree.{Declaration, Name, highest, level_of_declaration}
use Rattle.cedar_schema_text.specs.Faults.{action_faults, common_faults, definition_faults, entity_faults, noted_faults}
use Rattle.cedar_schema_text.specs.Meaning.{action_meant, actions_in, common_meant, commons_in, definition_meant, entities_in, entity_meant}
use Rattle.cedar_schema_text.specs.Meaning.{Action as MeantAction}
use Rattle.cedar_schema_text.specs.Meaning.{Common as MeantCommon}
use Rattle.cedar_schema_text.specs.Meaning.{Entity as MeantEntity}
use Rattle.cedar_schema_text.specs.Placed.{ActionAt, CommonTypeAt, EntityTypeAt}
use Rattle.cedar_schema_text.specs.declared.fault.Repeated.TheVariants as repeated
use Rattle.cedar_schema_text_laws.proofs.ActionTexts.{ActionOf, DeclaresAction, action_says}
use Rattle.cedar_schema_text_laws.proofs.CommonTexts.{CommonOf, DeclaresCommon, common_says}
use Rattle.cedar_schema_text_laws.proofs.EntityTexts.{DeclaresEntity, EntityOf, entity_says}
use Rattle.cedar_schema_text_laws.proofs.InOrder.{in_order-sorted, repeats-sorted}
use Rattle.cedar_schema_text_laws.proofs.ListTexts.{Opens-append}
use Rattle.cedar_schema_text_laws.proofs.Said.{action_said, definition_said, entity_type_said, type_said}
use Rattle.cedar_schema_text_laws.proofs.Tokens.{Opens, Opens-none, Says, says_line, says_so, says_then}
use Rattle.cedar_schema_text_laws.specs.Sayable.{Sayable, SayableDefinition, SayableKind, SayableRequests}
use Rattle.cedar_schema_text_laws.specs.TextForm.{action_form, entity_form, type_form}
use Rattle.cedar_schema_text_writer.proofs.Flawless.{each_flawless, neither}
use Rattle.cedar_schema_text_writer.specs.Flaws.{action_flaw, action_id, actions_flaw, common_id, common_type_flaw, common_types_flaw, definition_flaw, entity_id, entity_type_flaw, entity_types_flaw}
use Rattle.cedar_schema_text_writer.specs.Layout.{action_pieces, begun_behind, begun_by, common_pieces, definition_pieces, entity_pieces, lines_pieces}
use Rattle.cedar_schema_text_writer.specs.Names.{First, is_none}
use Rattle.cedar_schema_text_writer.specs.Pieces.{Piece}
use Rattle.cedar_schema_tokens.specs.Token.{Token}

-- ---- lines

pub begun_true : {A : Type 0} (items : List A) → begun_by true items ≡ true
begun_true [] = refl
begun_true (first ∷ rest) = refl

lines_open : {K T : Type 0} (pieces : K → T → List Piece) (level : ℕ) (entries : List (K × T)) → Opens (lines_pieces pieces level true entries)
lines_open pieces level [] = Opens-none
lines_open pieces level (entry ∷ rest) = λ all ended. refl

-- declarations of one kind, and what follows them
module _ {K T : Type 0} (source total : ℕ) (pieces : K → T → List Piece) (level : ℕ) (form : K × T → Form) (read : List (K × T) → Form)
    (more : (entry : K × T) (rest : List (K × T)) (ts left : List Token) → (form entry then read rest) ts left → read (entry ∷ rest) ts left)
    (others : Bool → List Piece) (opens : Opens (others true)) where
  abbrev pub SaysEach : List (K × T) → Type 0
  SaysEach entries = AllByRecursion (λ entry. Says source total (pieces entry.0 entry.1) (form entry)) entries

  -- one, and those behind it
  one_line : (entry : K × T) (rest : List (K × T)) → Says source total (pieces entry.0 entry.1) (form entry)
      → Says source total (lines_pieces pieces level true rest ++ others true) (read rest)
      → Says source total ((pieces entry.0 entry.1 ++ lines_pieces pieces level true rest) ++ others true) (read (entry ∷ rest))
  one_line entry rest says behind =
      let here = pieces entry.0 entry.1 in
      let lines = lines_pieces pieces level true rest in
      subst (λ (all : List Piece). Says source total all (read (entry ∷ rest))) (sym (append_assoc here lines (others true)))
      (says_so source total (here ++ (lines ++ others true)) (form entry then read rest) (read (entry ∷ rest)) (more entry rest)
      (says_then source total here (lines ++ others true) (form entry) (read rest) says
      (Opens-append lines (others true) (lines_open pieces level rest) opens) behind))

  lines_behind : (entries : List (K × T)) → SaysEach entries → Says source total (others true) (read [])
      → Says source total (lines_pieces pieces level true entries ++ others true) (read entries)
  lines_behind [] each after = after
  lines_behind (entry ∷ rest) each after =
      says_line source total level ((pieces entry.0 entry.1 ++ lines_pieces pieces level true rest) ++ others true) (read (entry ∷ rest))
      (one_line entry rest each.0 (lines_behind rest each.1 after))

  pub lines_say : (begun : Bool) (entries : List (K × T)) → SaysEach entries → Says source total (others (begun_by begun entries)) (read [])
      → Says source total (lines_pieces pieces level begun entries ++ others (begun_by begun entries)) (read entries)
  lines_say begun [] each after = after
  lines_say true (entry ∷ rest) each after =
      says_line source total level ((pieces entry.0 entry.1 ++ lines_pieces pieces level true rest) ++ others true) (read (entry ∷ rest))
      (one_line entry rest each.0 (lines_behind rest each.1 after))
  lines_say false (entry ∷ rest) each after = one_line entry rest each.0 (lines_behind rest each.1 after)

-- ---- declarations

-- the entries that are said
abbrev pub common_entry : Text × CommonTypeAt → Text × Expr
common_entry entry = (entry.0, type_said entry.1.ty)

abbrev pub entity_entry : Text × EntityTypeAt → Text × WrittenEntity
entity_entry entry = (entry.0, entity_type_said entry.1)

abbrev pub action_entry : Text × ActionAt → Text × WrittenAction
action_entry entry = (entry.0, action_said entry.1)

-- declarations that declare these entries, without faults
pub record Declare (commons : List (Text × Expr)) (entities : List (Text × WrittenEntity)) (actions : List (Text × WrittenAction))
    (all : List Declaration) : Type 0 where
  pub commons_said : map common_entry (map common_meant (commons_in all)) ≡ commons
  pub entities_said : map entity_entry (map entity_meant (entities_in all)) ≡ entities
  pub actions_said : map action_entry (map action_meant (actions_in all)) ≡ actions
  pub commons_clean : flat_map common_faults (commons_in all) ≡ []
  pub entities_clean : flat_map entity_faults (entities_in all) ≡ []
  pub actions_clean : flat_map action_faults (actions_in all) ≡ []
  pub noted : flat_map noted_faults all ≡ []
  pub few : highest level_of_declaration all ≤ 128
  pub bare : is_none commons && (is_none entities && is_none actions) ≡ is_none all

pub declare_none : Declare [] [] [] []
declare_none = record {
  commons_said = refl;
  entities_said = refl;
  actions_said = refl;
  commons_clean = refl;
  entities_clean = refl;
  actions_clean = refl;
  noted = refl;
  few = omega arith;
  bare = refl;
}

never : (test : Bool) → test && false ≡ false
never true = refl
never false = refl

both_below : (a b : ℕ) → a ≤ 128 → b ≤ 128 → max a b ≤ 128
both_below a b one other = omega (arith, one, other)

-- such declarations, and what follows
abbrev pub DeclarationsThen : Form → List (Text × Expr) → List (Text × WrittenEntity) → List (Text × WrittenAction) → Form
DeclarationsThen behind commons entities actions ts rest =
    (all : List Declaration) × (many IsDeclaration all then behind) ts rest × Declare commons entities actions all

module _ (first : First) (namespace : Option PlainName) where
  -- what is read of entries
  abbrev pub common_given : CommonTypeId × CommonType RawName → Text × Expr
  common_given entry = (common_type_text entry.0, type_form first namespace (raw_expr None entry.1.ty))

  abbrev pub entity_given : UnreservedId × EntityType RawName → Text × WrittenEntity
  entity_given entry = (unreserved_id_text entry.0, entity_form first namespace (written_entity entry.1))

  abbrev pub action_given : String Global × ActionType RawName → Text × WrittenAction
  action_given entry = (string_bytes entry.0, action_form first namespace (written_action entry.1))

module _ (source total : ℕ) (first : First) (namespace : Option PlainName) where
  common_more : (given : Text × Expr) (commons : List (Text × Expr)) (entities : List (Text × WrittenEntity)) (actions : List (Text × WrittenAction))
      (d : Declaration) (all : List Declaration) → DeclaresCommon given d → Declare commons entities actions all
      → Declare (given ∷ commons) entities actions (d ∷ all)
  common_more given commons entities actions d all one more = record {
    commons_said = ap (λ front. map common_entry (map common_meant (front ++ commons_in all))) one.commons ∙ (λ i. one.said i ∷ more.commons_said i);
    entities_said = ap (λ front. map entity_entry (map entity_meant (front ++ entities_in all))) one.entities ∙ more.entities_said;
    actions_said = ap (λ front. map action_entry (map action_meant (front ++ actions_in all))) one.actions ∙ more.actions_said;
    commons_clean = ap (λ front. flat_map common_faults (front ++ commons_in all)) one.commons ∙ (λ i. one.faultless i ++ more.commons_clean i);
    entities_clean = ap (λ front. flat_map entity_faults (front ++ entities_in all)) one.entities ∙ more.entities_clean;
    actions_clean = ap (λ front. flat_map action_faults (front ++ actions_in all)) one.actions ∙ more.actions_clean;
    noted = λ i. one.noted i ++ more.noted i;
    few = both_below (level_of_declaration d) (highest level_of_declaration all) one.few more.few;
    bare = refl;
  }

  entity_more : (given : Text × WrittenEntity) (commons : List (Text × Expr)) (entities : List (Text × WrittenEntity)) (actions : List (Text × WrittenAction))
      (d : Declaration) (all : List Declaration) → DeclaresEntity given d → Declare commons entities actions all
      → Declare commons (given ∷ entities) actions (d ∷ all)
  entity_more given commons entities actions d all one more = record {
    commons_said = ap (λ front. map common_entry (map common_meant (front ++ commons_in all))) one.commons ∙ more.commons_said;
    entities_said = ap (λ front. map entity_entry (map entity_meant (front ++ entities_in all))) one.entities ∙ (λ i. one.said i ∷ more.entities_said i);
    actions_said = ap (λ front. map action_entry (map action_meant (front ++ actions_in all))) one.actions ∙ more.actions_said;
    commons_clean = ap (λ front. flat_map common_faults (front ++ commons_in all)) one.commons ∙ more.commons_clean;
    entities_clean = ap (λ front. flat_map entity_faults (front ++ entities_in all)) one.entities ∙ (λ i. one.faultless i ++ more.entities_clean i);
    actions_clean = ap (λ front. flat_map action_faults (front ++ actions_in all)) one.actions ∙ more.actions_clean;
    noted = λ i. one.noted i ++ more.noted i;
    few = both_below (level_of_declaration d) (highest level_of_declaration all) one.few more.few;
    bare = never (is_none commons);
  }

  action_more : (given : Text × WrittenAction) (commons : List (Text × Expr)) (entities : List (Text × WrittenEntity)) (actions : List (Text × WrittenAction))
      (d : Declaration) (all : List Declaration) → DeclaresAction given d → Declare commons entities actions all
      → Declare commons entities (given ∷ actions) (d ∷ all)
  action_more given commons entities actions d all one more = record {
    commons_said = ap (λ front. map common_entry (map common_meant (front ++ commons_in all))) one.commons ∙ more.commons_said;
    entities_said = ap (λ front. map entity_entry (map entity_meant (front ++ entities_in all))) one.entities ∙ more.entities_said;
    actions_said = ap (λ front. map action_entry (map action_meant (front ++ actions_in all))) one.actions ∙ (λ i. one.said i ∷ more.actions_said i);
    commons_clean = ap (λ front. flat_map common_faults (front ++ commons_in all)) one.commons ∙ more.commons_clean;
    entities_clean = ap (λ front. flat_map entity_faults (front ++ entities_in all)) one.entities ∙ more.entities_clean;
    actions_clean = ap (λ front. flat_map action_faults (front ++ actions_in all)) one.actions ∙ (λ i. one.faultless i ++ more.actions_clean i);
    noted = λ i. one.noted i ++ more.noted i;
    few = both_below (level_of_declaration d) (highest level_of_declaration all) one.few more.few;
    bare = ap (λ test. is_none commons && test) (never (is_none entities)) ∙ never (is_none commons);
  }

  -- what is said of each entry
  abbrev commons_say_each : ℕ → List (CommonTypeId × CommonType RawName) → Type 0
  commons_say_each level =
      AllByRecursion (λ entry. Says source total (common_pieces first namespace level entry.0 entry.1) (CommonOf first namespace entry.0 entry.1))

  abbrev entities_say_each : ℕ → List (UnreservedId × EntityType RawName) → Type 0
  entities_say_each level =
      AllByRecursion (λ entry. Says source total (entity_pieces first namespace level entry.0 entry.1) (EntityOf first namespace entry.0 entry.1))

  abbrev actions_say_each : ℕ → List (String Global × ActionType RawName) → Type 0
  actions_say_each level =
      AllByRecursion (λ entry. Says source total (action_pieces first namespace level entry.0 entry.1) (ActionOf first namespace (string_bytes entry.0) entry.1))

  each_common : (level : ℕ) (entries : List (CommonTypeId × CommonType RawName))
      → AllByRecursion (λ (entry : CommonTypeId × CommonType RawName). Sayable (raw_expr None entry.1.ty)) entries
      → AllByRecursion (λ (entry : CommonTypeId × CommonType RawName). common_type_flaw first namespace entry.1 ≡ None) entries
      → commons_say_each level entries
  each_common level [] sayable flawless = tt
  each_common level (entry ∷ rest) sayable flawless =
      (common_says source total first namespace level entry.0 entry.1 sayable.0 flawless.0, each_common level rest sayable.1 flawless.1)

  each_entity : (level : ℕ) (entries : List (UnreservedId × EntityType RawName))
      → AllByRecursion (λ (entry : UnreservedId × EntityType RawName). SayableKind entry.1.kind) entries
      → AllByRecursion (λ (entry : UnreservedId × EntityType RawName). entity_type_flaw first namespace entry.1 ≡ None) entries
      → entities_say_each level entries
  each_entity level [] sayable flawless = tt
  each_entity level (entry ∷ rest) sayable flawless =
      (entity_says source total first namespace level entry.0 entry.1 sayable.0 flawless.0, each_entity level rest sayable.1 flawless.1)

  each_action : (level : ℕ) (entries : List (String Global × ActionType RawName))
      → AllByRecursion (λ (entry : String Global × ActionType RawName). SayableRequests entry.1.applies_to) entries
      → AllByRecursion (λ (entry : String Global × ActionType RawName). action_flaw first namespace entry.1 ≡ None) entries
      → actions_say_each level entries
  each_action level [] sayable flawless = tt
  each_action level (entry ∷ rest) sayable flawless =
      (action_says source total first namespace level entry.0 entry.1 sayable.0 flawless.0, each_action level rest sayable.1 flawless.1)

  module _ (level : ℕ) (behind : Form) (others : Bool → List Piece) (opens : Opens (others true)) where
    -- actions, and what follows
    abbrev actions_read : List (String Global × ActionType RawName) → Form
    actions_read entries = DeclarationsThen behind [] [] (map (action_given first namespace) entries)

    abbrev actions_written : List (String Global × ActionType RawName) → Bool → List Piece
    actions_written entries begun = lines_pieces (action_pieces first namespace level) level begun entries ++ others (begun_by begun entries)

    actions_say : (begun : Bool) (entries : List (String Global × ActionType RawName)) → actions_say_each level entries
        → Says source total (others (begun_by begun entries)) behind → Says source total (actions_written entries begun) (actions_read entries)
    actions_say begun entries each after =
        lines_say source total (action_pieces first namespace level) level (λ entry. ActionOf first namespace (string_bytes entry.0) entry.1) actions_read
        (λ entry rest ts left is. (
          is.1.0 ∷ is.2.0,
          (is.2.1.0, (is.0, is.1.1, is.2.1.1), is.2.1.2),
          action_more ((action_given first namespace) entry) [] [] (map (action_given first namespace) rest) is.1.0 is.2.0 is.1.2 is.2.2,
        ))
        others opens begun entries each
        (says_so source total (others (begun_by begun entries)) behind (actions_read []) (λ ts left is. ([], (ts, refl, is), declare_none)) after)

    actions_open : (entries : List (String Global × ActionType RawName)) → Opens (actions_written entries true)
    actions_open entries =
        Opens-append (lines_pieces (action_pieces first namespace level) level true entries) (others (begun_by true entries))
        (lines_open (action_pieces first namespace level) level entries) (subst (λ begun. Opens (others begun)) (sym (begun_true entries)) opens)

    -- entity types, and what follows
    module _ (actions : List (String Global × ActionType RawName)) where
      abbrev entities_read : List (UnreservedId × EntityType RawName) → Form
      entities_read entries = DeclarationsThen behind [] (map (entity_given first namespace) entries) (map (action_given first namespace) actions)

      abbrev entities_written : List (UnreservedId × EntityType RawName) → Bool → List Piece
      entities_written entries begun = lines_pieces (entity_pieces first namespace level) level begun entries ++ actions_written actions (begun_by begun entries)

      entities_say : (begun : Bool) (entries : List (UnreservedId × EntityType RawName)) → entities_say_each level entries
          → Says source total (actions_written actions (begun_by begun entries)) (actions_read actions)
          → Says source total (entities_written entries begun) (entities_read entries)
      entities_say begun entries each after =
          lines_say source total (entity_pieces first namespace level) level (λ entry. EntityOf first namespace entry.0 entry.1) entities_read
          (λ entry rest ts left is. (
            is.1.0 ∷ is.2.0,
            (is.2.1.0, (is.0, is.1.1, is.2.1.1), is.2.1.2),
            entity_more ((entity_given first namespace) entry) [] (map (entity_given first namespace) rest) (map (action_given first namespace) actions) is.1.0 is.2.0 is.1.2 is.2.2,
          ))
          (actions_written actions) (actions_open actions) begun entries each after

      entities_open : (entries : List (UnreservedId × EntityType RawName)) → Opens (entities_written entries true)
      entities_open entries =
          Opens-append (lines_pieces (entity_pieces first namespace level) level true entries) (actions_written actions (begun_by true entries))
          (lines_open (entity_pieces first namespace level) level entries)
          (subst (λ begun. Opens (actions_written actions begun)) (sym (begun_true entries)) (actions_open actions))

      -- common types, and what follows
      module _ (entities : List (UnreservedId × EntityType RawName)) where
        abbrev commons_read : List (CommonTypeId × CommonType RawName) → Form
        commons_read entries = DeclarationsThen behind (map (common_given first namespace) entries) (map (entity_given first namespace) entities) (map (action_given first namespace) actions)

        commons_say : (begun : Bool) (entries : List (CommonTypeId × CommonType RawName)) → commons_say_each level entries
            → Says source total (entities_written entities (begun_by begun entries)) (entities_read entities)
            → Says source total (lines_pieces (common_pieces first namespace level) level begun entries ++ entities_written entities (begun_by begun entries))
            (commons_read entries)
        commons_say begun entries each after =
            lines_say source total (common_pieces first namespace level) level (λ entry. CommonOf first namespace entry.0 entry.1) commons_read
            (λ entry rest ts left is. (
              is.1.0 ∷ is.2.0,
              (is.2.1.0, (is.0, is.1.1, is.2.1.1), is.2.1.2),
              common_more ((common_given first namespace) entry) (map (common_given first namespace) rest) (map (entity_given first namespace) entities) (map (action_given first namespace) actions) is.1.0 is.2.0 is.1.2 is.2.2,
            ))
            (entities_written entities) (entities_open entities) begun entries each after

    -- the declarations of a definition, and what follows
    abbrev pub DefinitionThen : NamespaceDefinition RawName → Form
    DefinitionThen it =
        DeclarationsThen behind (map (common_given first namespace) it.common_types.entries) (map (entity_given first namespace) it.entity_types.entries) (map (action_given first namespace) it.actions.entries)

    pub definition_says : (begun : Bool) (it : NamespaceDefinition RawName) → SayableDefinition it → definition_flaw first namespace it ≡ None
        → Says source total (others (begun_behind begun it)) behind
        → Says source total (definition_pieces first namespace level begun it ++ others (begun_behind begun it)) (DefinitionThen it)
    definition_says begun it sayable flawless after =
        let types = it.common_types.entries in
        let entities = it.entity_types.entries in
        let actions = it.actions.entries in
        let behind_types = begun_by begun types in
        let behind_entities = begun_by behind_types entities in
        let flaws = neither (common_types_flaw first namespace it) (option_or (entity_types_flaw first namespace it) (actions_flaw first namespace it)) flawless in
        let more_flaws = neither (entity_types_flaw first namespace it) (actions_flaw first namespace it) flaws.1 in
        let commons_flawless = each_flawless namespace (λ id. common_id (common_type_text id)) (common_type_flaw first namespace) types flaws.0 in
        let entities_flawless = each_flawless namespace (λ id. entity_id (unreserved_id_text id)) (entity_type_flaw first namespace) entities more_flaws.0 in
        let actions_flawless = each_flawless namespace (λ id. action_id (string_bytes id)) (action_flaw first namespace) actions more_flaws.1 in
        let common_lines = lines_pieces (common_pieces first namespace level) level begun types in
        let entity_lines = lines_pieces (entity_pieces first namespace level) level behind_types entities in
        let action_lines = lines_pieces (action_pieces first namespace level) level behind_entities actions in
        let last = others (begun_behind begun it) in
        let same : common_lines ++ (entity_lines ++ (action_lines ++ last)) ≡ (common_lines ++ (entity_lines ++ action_lines)) ++ last =
        sym (append_assoc common_lines (entity_lines ++ action_lines) last
        ∙ ap (λ (rest : List Piece). common_lines ++ rest) (append_assoc entity_lines action_lines last)) in
        subst (λ (pieces : List Piece). Says source total pieces (DefinitionThen it)) same
        (commons_say actions entities begun types (each_common level types sayable.commons commons_flawless)
        (entities_say actions behind_types entities (each_entity level entities sayable.entities entities_flawless)
        (actions_say behind_entities actions (each_action level actions sayable.actions actions_flawless) after)))

-- ---- what is meant

-- declarations whose names stand in order mean what they declare, and nothing is at fault in them
pub settled : (commons : List (Text × Expr)) (entities : List (Text × WrittenEntity)) (actions : List (Text × WrittenAction)) (all : List Declaration)
    (loc : Option Loc) → Declare commons entities actions all → IsStrictlySortedBy text_cmp (map (λ entry. entry.0) commons)
    → IsStrictlySortedBy text_cmp (map (λ entry. entry.0) entities) → IsStrictlySortedBy text_cmp (map (λ entry. entry.0) actions)
    → (definition_said (definition_meant all loc) ≡ record { common_types = commons; entity_types = entities; actions = actions })
    × (definition_faults all ≡ [])
settled commons entities actions all loc is commons_sorted entities_sorted actions_sorted = (said, clean) where
  commons_keys : map (λ (entry : Text × CommonTypeAt). entry.0) (map common_meant (commons_in all)) ≡ map (λ entry. entry.0) commons
  commons_keys = sym (map-map (λ (entry : Text × Expr). entry.0) common_entry (map common_meant (commons_in all))) ∙ ap (map (λ entry. entry.0)) is.commons_said

  entities_keys : map (λ (entry : Text × EntityTypeAt). entry.0) (map entity_meant (entities_in all)) ≡ map (λ entry. entry.0) entities
  entities_keys = sym (map-map (λ (entry : Text × WrittenEntity). entry.0) entity_entry (map entity_meant (entities_in all))) ∙ ap (map (λ entry. entry.0)) is.entities_said

  actions_keys : map (λ (entry : Text × ActionAt). entry.0) (map action_meant (actions_in all)) ≡ map (λ entry. entry.0) actions
  actions_keys = sym (map-map (λ (entry : Text × WrittenAction). entry.0) action_entry (map action_meant (actions_in all))) ∙ ap (map (λ entry. entry.0)) is.actions_said

  said : definition_said (definition_meant all loc) ≡ record { common_types = commons; entity_types = entities; actions = actions }
  said =
      let a = in_order-sorted text_cmp-total (map common_meant (commons_in all)) (subst (IsStrictlySortedBy text_cmp) (sym commons_keys) commons_sorted) in
      let b = in_order-sorted text_cmp-total (map entity_meant (entities_in all)) (subst (IsStrictlySortedBy text_cmp) (sym entities_keys) entities_sorted) in
      let c = in_order-sorted text_cmp-total (map action_meant (actions_in all)) (subst (IsStrictlySortedBy text_cmp) (sym actions_keys) actions_sorted) in
      λ i. record {
        common_types = (ap (map common_entry) a ∙ is.commons_said) i;
        entity_types = (ap (map entity_entry) b ∙ is.entities_said) i;
        actions = (ap (map action_entry) c ∙ is.actions_said) i;
      }

  texts : {A B : Type 0} (meant : A → Text × B) (name : A → Name) (items : List A) (names : List Text) → ((item : A) → (meant item).0 ≡ (name item).text)
      → map (λ (entry : Text × B). entry.0) (map meant items) ≡ names → map (λ (x : Name). x.text) (map name items) ≡ names
  texts meant name items names same keys =
      map-map (λ (x : Name). x.text) name items ∙ (map_same items ∙ (sym (map-map (λ entry. entry.0) meant items) ∙ keys))
    where
      map_same : (xs : List _) → map (λ item. (name item).text) xs ≡ map (λ item. (meant item).0) xs
      map_same [] = refl
      map_same (x ∷ xs) = λ i. sym (same x) i ∷ map_same xs i

  clean : definition_faults all ≡ []
  clean =
      let a = repeats-sorted repeated.CommonType (map (λ (it : MeantCommon). it.name) (commons_in all)) (subst (IsStrictlySortedBy text_cmp)
      (sym (texts common_meant (λ it. it.name) (commons_in all) (map (λ entry. entry.0) commons) (λ it. refl) commons_keys)) commons_sorted) in
      let b = repeats-sorted repeated.EntityType (map (λ (it : MeantEntity). it.name) (entities_in all)) (subst (IsStrictlySortedBy text_cmp)
      (sym (texts entity_meant (λ it. it.name) (entities_in all) (map (λ entry. entry.0) entities) (λ it. refl) entities_keys)) entities_sorted) in
      let c = repeats-sorted repeated.Action (map (λ (it : MeantAction). it.name) (actions_in all)) (subst (IsStrictlySortedBy text_cmp)
      (sym (texts action_meant (λ it. it.name) (actions_in all) (map (λ entry. entry.0) actions) (λ it. refl) actions_keys)) actions_sorted) in
      λ i. ((is.noted i ++ (a i ++ is.commons_clean i)) ++ (b i ++ is.entities_clean i)) ++ (c i ++ is.actions_clean i)
