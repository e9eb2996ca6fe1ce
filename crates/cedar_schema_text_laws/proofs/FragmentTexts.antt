-- Fragments as they are written, and the members that are read of them.
use Rattle.std.proofs.Common.{◌≡◌, ℕ, ◌≤◌, max, Bool, true, false, ◌&&◌, cond, List, [], ◌∷◌, ◌++◌, map, Option, Some, None, option_map, String, Global, string_bytes, codes, refl, sym, ap, ap₂, subst, ◌∙◌, arith, append-nil, append_assoc}
use Rattle.std.proofs.lemmas.List.{map-append}
use Rattle.std.proofs.lemmas.Simd.{map-map}
use Rattle.std.specs.Bool.{⊤}
use Rattle.std.specs.BTreeMap.{insert_entry}
use Rattle.std.specs.Cmp.Lexicographic.{options_total}
use Rattle.std.specs.List.{AllByRecursion, flat_map}
use Rattle.std.specs.List.Sorted.{IsStrictlySortedBy}
use Rattle.std.specs.Option.{option_cmp}
use Rattle.std.specs.declared.cmp.Ordering.TheVariants.{Less}
use Rattle.cedar_ast.proofs.PlainNames.{name_cmp-total}
use Rattle.cedar_ast.proofs.TextsOfNames.{IsOfIdentifiers-name_of, names_by_text}
use Rattle.cedar_ast.specs.Joined.{each_after, joined}
use Rattle.cedar_ast.specs.Words.{IsOfIdentifiers, IsReserved, PlainName, Text, name_cmp, name_text, plain_name, text_cmp, unreserved_id_text}
use Rattle.cedar_ast.specs.declared.unreserved_id.UnreservedId.{UnreservedId}
use Rattle.cedar_ast.specs.declared.loc.Loc.{Loc}
use Rattle.cedar_ast.specs.declared.name.Name as code_name
use Rattle.cedar_json.specs.ActionFormat.{WrittenAction, written_action}
use Rattle.cedar_json.specs.EntityFormat.{WrittenEntity, written_entity}
use Rattle.cedar_schema_ast.specs.Words.{Expr, common_type_text, raw_expr}
use Rattle.cedar_schema_ast.specs.declared.json_schema.action_type.ActionType.{ActionType}
use Rattle.cedar_schema_ast.specs.declared.json_schema.common_type_id.CommonTypeId.{CommonTypeId}
use Rattle.cedar_schema_ast.specs.declared.json_schema.entity_type.EntityType.{EntityType}
use Rattle.cedar_schema_ast.specs.declared.json_schema.fragment.CommonType.{CommonType}
use Rattle.cedar_json.specs.DefinitionFormat.{WrittenDefinition, WrittenFragment, written_definition, written_fragment}
use Rattle.cedar_schema_ast.specs.declared.json_schema.fragment.Fragment.{Fragment}
use Rattle.cedar_schema_ast.specs.declared.json_schema.fragment.NamespaceDefinition.{NamespaceDefinition}
use Rattle.cedar_schema_ast.specs.declared.json_schema.raw_name.RawName.{RawName}
use Rattle.cedar_schema_grammar.specs.Grammar.{Form, IsDeclaration, IsMember, between, many, mark, nothing, ◌then◌}
use Rattle.cedar_schema_grammar.specs.Grammar.{word as word_form}
use Rattle.cedar_schema_grammar.specs.Tree.{Declaration, Member, Path, alone, highest, level_of_declaration, level_of_member, namespace}
use Rattle.cedar_schema_text.proofs.NameLemmas.{namespace_some}
use Rattle.cedar_schema_text.proofs.SoFar.{in_order_more}
use Rattle.cedar_schema_text.specs.Faults.{block_faults, blocks_faults, block_name, definition_faults, faults_in, is_name, is_namespace_name, reserved, unless}
use Rattle.cedar_schema_text.specs.Meaning.{Block, alone_in, block_meant, blocks_in, definition_meant, empty_namespace, fragment_meant, in_order, name_from, namespace_cmp}
use Rattle.cedar_schema_text.specs.Placed.{DefinitionAt, NameAt}
use Rattle.cedar_schema_text.specs.declared.fault.Repeated.TheVariants as repeated
use Rattle.cedar_schema_text_laws.proofs.DefinitionTexts.{Declare, DefinitionThen, action_given, common_given, definition_says, entity_given, settled}
use Rattle.cedar_schema_text_laws.proofs.InOrder.{in_order-seen, in_order-sorted, repeats-keyed}
use Rattle.cedar_schema_text_laws.proofs.PathTexts.{PathOf, ids_of, path_says}
use Rattle.cedar_schema_text_laws.proofs.Said.{definition_said, fragment_said, namespace_said}
use Rattle.cedar_schema_text_laws.proofs.Tokens.{Opens, Opens-none, Says, says_blank, says_close_brace, says_last, says_line, says_nothing, says_open_brace, says_so, says_then, says_word}
use Rattle.cedar_schema_text_laws.specs.Sayable.{SayableDefinition, SayableFragment}
use Rattle.cedar_schema_text_laws.specs.TextForm.{action_form, definition_form, entity_form, fragment_form, is_bare, type_form}
use Rattle.cedar_schema_text_writer.proofs.Flawless.{neither}
use Rattle.cedar_schema_text_writer.specs.Flaws.{IsWritable, definition_flaw, namespaces_flaw}
use Rattle.cedar_schema_text_writer.specs.Layout.{begun_behind, block_pieces, definition_pieces, fragment_pieces, gap_pieces, namespaces_pieces}
use Rattle.cedar_schema_text_writer.specs.Names.{First, is_none}
use Rattle.cedar_schema_text_writer.specs.Pieces.{Piece, blank, line, path_pieces, sign, word}
use Rattle.cedar_schema_tokens.specs.Token.{Token}
use Rattle.cedar_schema_tokens.specs.declared.token.Symbol.TheVariants as mark_of

-- the namespaces of a fragment
abbrev pub Entries : Type 0
Entries = List (Option code_name.Name × NamespaceDefinition RawName)

-- ---- blocks

-- what is declared in a namespace, in its text form
abbrev pub given : First → Option PlainName → NamespaceDefinition RawName → WrittenDefinition
given first name it = record {
  common_types = map (common_given first name) it.common_types.entries;
  entity_types = map (entity_given first name) it.entity_types.entries;
  actions = map (action_given first name) it.actions.entries;
}

-- the declarations of a definition
abbrev pub DeclareAll : First → Option PlainName → NamespaceDefinition RawName → List Declaration → Type 0
DeclareAll first name it all =
    Declare (map (common_given first name) it.common_types.entries) (map (entity_given first name) it.entity_types.entries)
    (map (action_given first name) it.actions.entries) all

-- the block of a namespace of this name
record IsBlockOf (name : PlainName) (it : Block) : Type 0 where
  ids : it.path.ids ≡ ids_of name
  named : name_from it.path.ids ≡ name
  identifiers : IsOfIdentifiers name

-- a block that says a definition
abbrev BlockOf : First → PlainName → NamespaceDefinition RawName → Form
BlockOf first name it ts rest =
    (path : Path) × (all : List Declaration) × (loc : Loc) × IsMember (namespace [] path all loc) ts rest
    × IsBlockOf name (record { annotations = []; path = path; declarations = all; loc = loc }) × (is_name path.ids ≡ true) × DeclareAll first (Some name) it all

module _ (source total : ℕ) (first : First) where
  block_says : (name : PlainName) (it : NamespaceDefinition RawName) → IsOfIdentifiers name → SayableDefinition it → definition_flaw first (Some name) it ≡ None
      → Says source total (block_pieces first name it) (BlockOf first name it)
  block_says name it identifiers sayable flawless =
      let close = mark mark_of.CloseBrace in
      let ending = line 0 ∷ sign (codes "}") ∷ [] in
      let inside = definition_pieces first (Some name) 1 true it ++ ending in
      let form = DefinitionThen source total first (Some name) 1 close (λ begun. ending) (λ all ended. refl) it in
      let after = says_line source total 0 (sign (codes "}") ∷ []) close
      (says_last source total (sign (codes "}") ∷ []) close (says_close_brace source total [] nothing (says_nothing source total))) in
      let says = definition_says source total first (Some name) 1 close (λ begun. ending) (λ all ended. refl) true it sayable flawless after in
      let behind = blank ∷ sign (codes "{") ∷ inside in
      let path = path_pieces name in
      says_so source total (word (codes "namespace") ∷ blank ∷ (path ++ behind))
      (word_form (codes "namespace") then PathOf name then mark mark_of.OpenBrace then form) (BlockOf first name it)
      (λ ts rest is. (
        is.2.1.0,
        is.2.2.2.0,
        between is.2.0 rest,
        (ts, refl, (is.0, is.1, (is.2.0, is.2.1.1, ((is.2.2.0, is.2.2.1, is.2.2.2.1), refl)))),
        record { ids = is.2.1.4; named = is.2.1.2; identifiers = identifiers },
        is.2.1.3,
        is.2.2.2.2,
      ))
      (says_word source total (codes "namespace") (blank ∷ (path ++ behind)) (PathOf name then mark mark_of.OpenBrace then form) refl (λ all ended. refl)
      (says_blank source total (path ++ behind) (PathOf name then mark mark_of.OpenBrace then form)
      (says_then source total path behind (PathOf name) (mark mark_of.OpenBrace then form) (path_says source total name identifiers) (λ all ended. refl)
      (says_blank source total (sign (codes "{") ∷ inside) (mark mark_of.OpenBrace then form) (says_open_brace source total inside form says)))))

-- ---- names of namespaces

-- ids with `::` between them, as the text of a name
behind_separators : (path : List Text) (base : Text)
    → each_after (codes "::") (path ++ base ∷ []) ≡ codes "::" ++ (flat_map (λ part. part ++ codes "::") path ++ base)
behind_separators [] base = append-nil (codes "::" ++ base)
behind_separators (id ∷ path) base =
    let behind = flat_map (λ part. part ++ codes "::") path in
    ap (λ (rest : Text). (codes "::" ++ id) ++ rest) (behind_separators path base)
    ∙ ap (λ (rest : Text). codes "::" ++ rest)
    (sym (ap (λ (front : Text). front ++ base) (append_assoc id (codes "::") behind) ∙ append_assoc id (codes "::" ++ behind) base))

joined_ids : (path : List Text) (base : Text) → joined (codes "::") (path ++ base ∷ []) ≡ name_text (record { base = base; path = path })
joined_ids [] base = append-nil base
joined_ids (id ∷ path) base =
    let behind = flat_map (λ part. part ++ codes "::") path in
    ap (λ (rest : Text). id ++ rest) (behind_separators path base)
    ∙ sym (ap (λ (front : Text). front ++ base) (append_assoc id (codes "::") behind) ∙ append_assoc id (codes "::" ++ behind) base)

-- the namespace that a block is of
abbrev block_key : Block → Option PlainName
block_key it = namespace_said (block_meant it).0

abbrev GoodBlock : Block → Type 0
GoodBlock it = (name : PlainName) × IsBlockOf name it

-- blocks whose names have the same text are of the same namespace
same_namespace : (a b : Block) → GoodBlock a → GoodBlock b → (block_name a).text ≡ (block_name b).text → block_key a ≡ block_key b
same_namespace a b (one, is) (other, also) same =
    let text_a : (block_name a).text ≡ name_text one = ap (joined (codes "::")) is.ids ∙ joined_ids one.path one.base in
    let text_b : (block_name b).text ≡ name_text other = ap (joined (codes "::")) also.ids ∙ joined_ids other.path other.base in
    let names : one ≡ other = names_by_text one other is.identifiers also.identifiers (sym text_a ∙ (same ∙ text_b)) in
    ap Some (is.named ∙ (names ∙ sym also.named))

-- ---- blocks in order

-- a namespace that isn't the empty one
abbrev IsNamed : Option code_name.Name → Type 0
IsNamed None = ⊥
IsNamed (Some name) = ⊤

-- what is said of a namespace
abbrev entry_said : Option NameAt × DefinitionAt → Option PlainName × WrittenDefinition
entry_said entry = (namespace_said entry.0, definition_said entry.1)

-- the text form of namespaces, each by itself
abbrev entry_given : First → Option code_name.Name × NamespaceDefinition RawName → Option PlainName × WrittenDefinition
entry_given first entry = (option_map plain_name entry.0, given first (option_map plain_name entry.0) entry.1)

-- members that are blocks of these namespaces, without faults
record AreBlocksOf (of : WrittenFragment) (all : List Member) : Type 0 where
  said : map entry_said (map block_meant (blocks_in all)) ≡ of
  outside : alone_in all ≡ []
  clean : flat_map block_faults (blocks_in all) ≡ []
  good : AllByRecursion GoodBlock (blocks_in all)
  few : highest level_of_member all ≤ 128

both_below : (a b : ℕ) → a ≤ 128 → b ≤ 128 → max a b ≤ 128
both_below a b one other = omega (arith, one, other)

below_both : (a b : ℕ) → max a b ≤ 128 → (a ≤ 128) × (b ≤ 128)
below_both a b is = (omega (arith, is), omega (arith, is))

module _ (first : First) where
  -- what is declared in a definition is its text form
  pub given_form : (name : Option PlainName) (it : NamespaceDefinition RawName) → given first name it ≡ definition_form first name (written_definition it)
  given_form name it =
      let commons = map-map (λ (entry : Text × Expr). (entry.0, type_form first name entry.1))
      (λ (entry : CommonTypeId × CommonType RawName). (common_type_text entry.0, raw_expr None entry.1.ty)) it.common_types.entries in
      let entities = map-map (λ (entry : Text × WrittenEntity). (entry.0, entity_form first name entry.1))
      (λ (entry : UnreservedId × EntityType RawName). (unreserved_id_text entry.0, written_entity entry.1)) it.entity_types.entries in
      let actions = map-map (λ (entry : Text × WrittenAction). (entry.0, action_form first name entry.1))
      (λ (entry : String Global × ActionType RawName). (string_bytes entry.0, written_action entry.1)) it.actions.entries in
      λ i. record { common_types = sym commons i; entity_types = sym entities i; actions = sym actions i }

  -- declarations of a definition mean its text form, and nothing is at fault in them
  settles : (name : Option PlainName) (it : NamespaceDefinition RawName) (all : List Declaration) (loc : Option Loc) → SayableDefinition it
      → DeclareAll first name it all → (definition_said (definition_meant all loc) ≡ given first name it) × (definition_faults all ≡ [])
  settles name it all loc sayable declare =
      settled (map (common_given first name) it.common_types.entries) (map (entity_given first name) it.entity_types.entries)
      (map (action_given first name) it.actions.entries) all loc declare
      (subst (IsStrictlySortedBy text_cmp) (sym (map-map (λ (entry : Text × Expr). entry.0) (common_given first name) it.common_types.entries)) sayable.commons_sorted)
      (subst (IsStrictlySortedBy text_cmp) (sym (map-map (λ (entry : Text × WrittenEntity). entry.0) (entity_given first name) it.entity_types.entries)) sayable.entities_sorted)
      (subst (IsStrictlySortedBy text_cmp) (sym (map-map (λ (entry : Text × WrittenAction). entry.0) (action_given first name) it.actions.entries)) sayable.actions_sorted)

  -- one block before others
  blocks_more : (name : PlainName) (it : NamespaceDefinition RawName) (path : Path) (all : List Declaration) (loc : Loc) (of : WrittenFragment) (more : List Member)
      → (IsReserved name → ⊥) → SayableDefinition it → IsBlockOf name (record { annotations = []; path = path; declarations = all; loc = loc })
      → is_name path.ids ≡ true → DeclareAll first (Some name) it all → AreBlocksOf of more
      → AreBlocksOf ((Some name, given first (Some name) it) ∷ of) (namespace [] path all loc ∷ more)
  blocks_more name it path all loc of more unreserved sayable is valid declare others =
      let settled_here = settles (Some name) it all (Some loc) sayable declare in
      let plain : is_namespace_name path.ids ≡ true = namespace_some path.ids valid (λ is_reserved. unreserved (subst IsReserved is.named is_reserved)) in
      record {
        said = λ i. (Some (is.named i), settled_here.0 i) ∷ others.said i;
        outside = others.outside;
        clean = λ i. (ap (λ test. unless test (reserved path.loc)) plain i ++ settled_here.1 i) ++ others.clean i;
        good = ((name, is), others.good);
        few = both_below (highest level_of_declaration all) (highest level_of_member more) declare.few others.few;
      }

  -- blocks that say namespaces
  abbrev BlocksOf : Entries → Form
  BlocksOf entries ts rest = (all : List Member) × many IsMember all ts rest × AreBlocksOf (map (entry_given first) entries) all

  module _ (source total : ℕ) where
    with_gap : (begun : Bool) (pieces : List Piece) (form : Form) → Says source total pieces form → Says source total (gap_pieces begun ++ pieces) form
    with_gap true pieces form says = says_line source total 0 (line 0 ∷ pieces) form (says_line source total 0 pieces form says)
    with_gap false pieces form says = says

    blocks_open : (entries : Entries) → AllByRecursion (λ entry. IsNamed entry.0) entries → Opens (namespaces_pieces first true entries)
    blocks_open [] named = Opens-none
    blocks_open ((Some name, it) ∷ rest) named = λ all ended. refl
    blocks_open ((None, it) ∷ rest) named = absurd named.0

    blocks_say : (begun : Bool) (entries : Entries) → AllByRecursion (λ entry. IsNamed entry.0) entries
        → AllByRecursion (λ (entry : Option code_name.Name × NamespaceDefinition RawName). SayableDefinition entry.1) entries
        → namespaces_flaw first entries ≡ None → Says source total (namespaces_pieces first begun entries) (BlocksOf entries)
    blocks_say begun [] named sayable flawless =
        says_so source total [] nothing (BlocksOf [])
        (λ ts rest is. ([], is, record { said = refl; outside = refl; clean = refl; good = tt; few = omega arith })) (says_nothing source total)
    blocks_say begun ((None, it) ∷ rest) named sayable flawless = absurd named.0
    blocks_say begun ((Some name, it) ∷ rest) named sayable flawless =
        let plain = plain_name name in
        let flaws = neither (definition_flaw first (Some plain) it) (namespaces_flaw first rest) flawless in
        let block = block_pieces first plain it in
        let more = namespaces_pieces first true rest in
        let both = says_then source total block more (BlockOf first plain it) (BlocksOf rest)
        (block_says source total first plain it (IsOfIdentifiers-name_of name.name) sayable.0 flaws.0) (blocks_open rest named.1)
        (blocks_say true rest named.1 sayable.1 flaws.1) in
        subst (λ (pieces : List Piece). Says source total pieces (BlocksOf ((Some name, it) ∷ rest))) (sym (append_assoc (gap_pieces begun) block more))
        (with_gap begun (block ++ more) (BlocksOf ((Some name, it) ∷ rest))
        (says_so source total (block ++ more) (BlockOf first plain it then BlocksOf rest) (BlocksOf ((Some name, it) ∷ rest))
        (λ ts left is. (
          namespace [] is.1.0 is.1.1 is.1.2 ∷ is.2.0,
          (is.0, is.1.3, is.2.1),
          blocks_more plain it is.1.0 is.1.1 is.1.2 (map (entry_given first) rest) is.2.0 name.unreserved sayable.0 is.1.4 is.1.5 is.1.6 is.2.2,
        )) both))

-- ---- fragments

-- the plain data of namespaces
abbrev pub entries_written : Entries → WrittenFragment
entries_written entries = map (λ entry. (option_map plain_name entry.0, written_definition entry.1)) entries

-- namespaces in order, of whose definitions what is declared may be said
record SayableEntries (entries : Entries) : Type 0 where
  sorted : IsStrictlySortedBy (option_cmp name_cmp) (map (λ entry. option_map plain_name entry.0) entries)
  each : AllByRecursion (λ (entry : Option code_name.Name × NamespaceDefinition RawName). SayableDefinition entry.1) entries

-- members that mean a fragment, without faults
pub record AreMembersOf (of : WrittenFragment) (all : List Member) : Type 0 where
  pub said : fragment_said (fragment_meant all) ≡ of
  pub clean : faults_in all ≡ []
  pub few : highest level_of_member all ≤ 128

abbrev pub MembersOf : WrittenFragment → Form
MembersOf of ts rest = (all : List Member) × many IsMember all ts rest × AreMembersOf of all

-- declarations outside of blocks, before these
blocks_outside : (all : List Declaration) (more : List Member) → blocks_in (map alone all ++ more) ≡ blocks_in more
blocks_outside [] more = refl
blocks_outside (d ∷ all) more = blocks_outside all more

alone_outside : (all : List Declaration) (more : List Member) → alone_in more ≡ [] → alone_in (map alone all ++ more) ≡ all
alone_outside [] more none = none
alone_outside (d ∷ all) more none = ap (λ rest. d ∷ rest) (alone_outside all more none)

many_outside : (all : List Declaration) (more : List Member) (ts mid rest : List Token) → many IsDeclaration all ts mid → many IsMember more mid rest
    → many IsMember (map alone all ++ more) ts rest
many_outside [] more ts mid rest is behind = subst (λ (start : List Token). many IsMember more start rest) (sym is) behind
many_outside (d ∷ all) more ts mid rest is behind = (is.0, is.1, many_outside all more is.0 mid rest is.2 behind)

few_outside : (all : List Declaration) (more : List Member) → highest level_of_declaration all ≤ 128 → highest level_of_member more ≤ 128
    → highest level_of_member (map alone all ++ more) ≤ 128
few_outside [] more one other = other
few_outside (d ∷ all) more one other =
    let parts = below_both (level_of_declaration d) (highest level_of_declaration all) one in
    both_below (level_of_declaration d) (highest level_of_member (map alone all ++ more)) parts.0 (few_outside all more parts.1 other)

-- the order of namespaces is that of their names
namespaces_ordered : (a b : Option NameAt) → namespace_cmp a b ≡ option_cmp name_cmp (namespace_said a) (namespace_said b)
namespaces_ordered None None = refl
namespaces_ordered None (Some b) = refl
namespaces_ordered (Some a) None = refl
namespaces_ordered (Some a) (Some b) = refl

-- entries in order, of which none is of the empty namespace, behind it
abbrev Named : WrittenFragment → Type 0
Named [] = ⊤
Named ((None, it) ∷ rest) = ⊥
Named ((Some name, it) ∷ rest) = ⊤

before_named : (it : WrittenDefinition) (of : WrittenFragment) → Named of → insert_entry (option_cmp name_cmp) of None it ≡ (None, it) ∷ of
before_named it [] named = refl
before_named it ((None, other) ∷ rest) named = absurd named
before_named it ((Some name, other) ∷ rest) named = refl

module _ (first : First) where
  -- what members mean that are declarations outside of blocks and blocks
  meant_by : (blocks : List Block) (outside : List Declaration) (of : WrittenFragment) → map entry_said (map block_meant blocks) ≡ of
      → IsStrictlySortedBy (option_cmp name_cmp) (map (λ entry. entry.0) of) → Named of → (it : WrittenDefinition)
      → definition_said (definition_meant outside None) ≡ it
      → fragment_said (in_order namespace_cmp (map block_meant blocks ++ empty_namespace outside)) ≡ cond (is_none outside) [] ((None, it) ∷ []) ++ of
  meant_by blocks outside of said sorted named it is =
      in_order-seen namespace_cmp (option_cmp name_cmp) namespace_said definition_said namespaces_ordered (map block_meant blocks ++ empty_namespace outside)
      ∙ (ap (in_order (option_cmp name_cmp)) (map-append entry_said (map block_meant blocks) (empty_namespace outside)
      ∙ ap (λ front. front ++ map entry_said (empty_namespace outside)) said) ∙ by outside is)
    where
      settled_order : in_order (option_cmp name_cmp) of ≡ of
      settled_order = in_order-sorted (options_total name_cmp-total) of sorted

      by : (those : List Declaration) → definition_said (definition_meant those None) ≡ it
          → in_order (option_cmp name_cmp) (of ++ map entry_said (empty_namespace those)) ≡ cond (is_none those) [] ((None, it) ∷ []) ++ of
      by [] same = ap (in_order (option_cmp name_cmp)) (append-nil of) ∙ settled_order
      by (d ∷ those) same =
          in_order_more (option_cmp name_cmp) of (None, definition_said (definition_meant (d ∷ those) None))
          ∙ (ap (λ done. insert_entry (option_cmp name_cmp) done None (definition_said (definition_meant (d ∷ those) None))) settled_order
          ∙ (ap (insert_entry (option_cmp name_cmp) of None) same ∙ before_named it of named))

  -- of blocks in order none stands again, and nothing is at fault in them
  blocks_faultless : (of : WrittenFragment) (all : List Member) → AreBlocksOf of all → IsStrictlySortedBy (option_cmp name_cmp) (map (λ entry. entry.0) of)
      → blocks_faults (blocks_in all) ≡ []
  blocks_faultless of all are sorted =
      let keys : map block_key (blocks_in all) ≡ map (λ entry. entry.0) of =
      sym (map-map (λ (entry : Option NameAt × DefinitionAt). namespace_said entry.0) block_meant (blocks_in all))
      ∙ (sym (map-map (λ (entry : Option PlainName × WrittenDefinition). entry.0) entry_said (map block_meant (blocks_in all)))
      ∙ ap (map (λ entry. entry.0)) are.said) in
      let once = repeats-keyed (options_total name_cmp-total) block_name block_key GoodBlock same_namespace repeated.Namespace (blocks_in all) are.good
      (subst (IsStrictlySortedBy (option_cmp name_cmp)) (sym keys) sorted) in
      λ i. once i ++ are.clean i

  -- the text form of namespaces, none of which is the empty one
  form_named : (entries : Entries) → AllByRecursion (λ entry. IsNamed entry.0) entries
      → fragment_form first (entries_written entries) ≡ map (entry_given first) entries
  form_named [] named = refl
  form_named ((None, it) ∷ rest) named = absurd named.0
  form_named ((Some name, it) ∷ rest) named = λ i. (Some (plain_name name), sym (given_form first (Some (plain_name name)) it) i) ∷ form_named rest named.1 i

-- namespaces behind another in order have names
named_behind : (key : Option PlainName) (entries : Entries)
    → AllByRecursion (λ other. option_cmp name_cmp key other ≡ Less) (map (λ entry. option_map plain_name entry.0) entries)
    → AllByRecursion (λ (entry : Option code_name.Name × NamespaceDefinition RawName). IsNamed entry.0) entries
named_behind key [] above = tt
named_behind key ((Some name, it) ∷ rest) above = (tt, named_behind key rest above.1)
named_behind None ((None, it) ∷ rest) above = absurd (let never = above.0 in cc)
named_behind (Some key) ((None, it) ∷ rest) above = absurd (let never = above.0 in cc)

named_given : (first : First) (entries : Entries) → AllByRecursion (λ (entry : Option code_name.Name × NamespaceDefinition RawName). IsNamed entry.0) entries
    → Named (map (entry_given first) entries)
named_given first [] named = tt
named_given first ((Some name, it) ∷ rest) named = tt
named_given first ((None, it) ∷ rest) named = absurd named.0

none_mapped : {A B : Type 0} (f : A → B) (items : List A) → is_none (map f items) ≡ is_none items
none_mapped f [] = refl
none_mapped f (item ∷ rest) = refl

-- a definition is bare where it gives no declarations
bare_given : (first : First) (it : NamespaceDefinition RawName) (all : List Declaration) → DeclareAll first None it all
    → is_none all ≡ is_bare (written_definition it)
bare_given first it all declare =
    let commons = it.common_types.entries in
    let entities = it.entity_types.entries in
    let actions = it.actions.entries in
    let it_written = written_definition it in
    let common_given_none : is_none (map (common_given first None) commons) ≡ is_none it_written.common_types =
    none_mapped (common_given first None) commons
    ∙ sym (none_mapped {B = Text × Expr} (λ (entry : CommonTypeId × CommonType RawName). (common_type_text entry.0, raw_expr None entry.1.ty)) commons) in
    let entity_given_none : is_none (map (entity_given first None) entities) ≡ is_none it_written.entity_types =
    none_mapped (entity_given first None) entities
    ∙ sym (none_mapped {B = Text × WrittenEntity} (λ (entry : UnreservedId × EntityType RawName). (unreserved_id_text entry.0, written_entity entry.1)) entities) in
    let action_given_none : is_none (map (action_given first None) actions) ≡ is_none it_written.actions =
    none_mapped (action_given first None) actions
    ∙ sym (none_mapped {B = Text × WrittenAction} (λ (entry : String Global × ActionType RawName). (string_bytes entry.0, written_action entry.1)) actions) in
    sym declare.bare ∙ (λ i. common_given_none i && (entity_given_none i && action_given_none i))

module _ (source total : ℕ) (first : First) where
  -- blocks alone
  named_says : (entries : Entries) → AllByRecursion (λ (entry : Option code_name.Name × NamespaceDefinition RawName). IsNamed entry.0) entries → SayableEntries entries
      → namespaces_flaw first entries ≡ None → Says source total (namespaces_pieces first false entries) (MembersOf (fragment_form first (entries_written entries)))
  named_says entries named sayable flawless =
      let of = map (entry_given first) entries in
      let sorted : IsStrictlySortedBy (option_cmp name_cmp) (map (λ entry. entry.0) of) =
      subst (IsStrictlySortedBy (option_cmp name_cmp)) (sym (map-map (λ (entry : Option PlainName × WrittenDefinition). entry.0) (entry_given first) entries)) sayable.sorted in
      says_so source total (namespaces_pieces first false entries) (BlocksOf first entries) (MembersOf (fragment_form first (entries_written entries)))
      (λ ts rest is.
      let all = is.0 in
      let are = is.2 in
      let nothing_said = definition_said (definition_meant [] None) in (
        all,
        is.1,
        record {
          said = ap (λ outside. fragment_said (in_order namespace_cmp (map block_meant (blocks_in all) ++ empty_namespace outside))) are.outside
              ∙ (meant_by first (blocks_in all) [] of are.said sorted (named_given first entries named) nothing_said refl ∙ sym (form_named first entries named));
          clean = λ i. blocks_faultless first of all are sorted i ++ ap definition_faults are.outside i;
          few = are.few;
        },
      ))
      (blocks_say first source total false entries named sayable.each flawless)

  -- the empty namespace, and blocks
  outside_says : (it : NamespaceDefinition RawName) (rest : Entries)
      → AllByRecursion (λ (entry : Option code_name.Name × NamespaceDefinition RawName). IsNamed entry.0) rest
      → SayableEntries ((None, it) ∷ rest) → namespaces_flaw first ((None, it) ∷ rest) ≡ None
      → Says source total (namespaces_pieces first false ((None, it) ∷ rest)) (MembersOf (fragment_form first (entries_written ((None, it) ∷ rest))))
  unfolding IsStrictlySortedBy
  outside_says it rest named sayable flawless =
      let of = map (entry_given first) rest in
      let flaws = neither (definition_flaw first None it) (namespaces_flaw first rest) flawless in
      let begun = begun_behind false it in
      let behind = BlocksOf first rest in
      let others = λ (begun : Bool). namespaces_pieces first begun rest in
      let opens = blocks_open first source total rest named in
      let form = DefinitionThen source total first None 0 behind others opens it in
      let after = blocks_say first source total begun rest named sayable.each.1 flaws.1 in
      let sorted : IsStrictlySortedBy (option_cmp name_cmp) (map (λ entry. entry.0) of) =
      subst (IsStrictlySortedBy (option_cmp name_cmp)) (sym (map-map (λ (entry : Option PlainName × WrittenDefinition). entry.0) (entry_given first) rest)) sayable.sorted.1 in
      says_so source total (definition_pieces first None 0 false it ++ others begun) form (MembersOf (fragment_form first (entries_written ((None, it) ∷ rest))))
      (λ ts left is.
      let all = is.0 in
      let more = is.1.2.0 in
      let are = is.1.2.2 in
      let declare = is.2 in
      let settled_here = settles first None it all None sayable.each.0 declare in
      let members = map alone all ++ more in (
        members,
        many_outside all more ts is.1.0 left is.1.1 is.1.2.1,
        record {
          said = ap₂ (λ blocks outside. fragment_said (in_order namespace_cmp (map block_meant blocks ++ empty_namespace outside)))
              (blocks_outside all more) (alone_outside all more are.outside)
              ∙ (meant_by first (blocks_in more) all of are.said sorted (named_given first rest named) (given first None it) settled_here.0
              ∙ (λ i. cond (bare_given first it all declare i) [] ((None, given_form first None it i) ∷ []) ++ sym (form_named first rest named) i));
          clean = ap₂ (λ blocks outside. blocks_faults blocks ++ definition_faults outside) (blocks_outside all more) (alone_outside all more are.outside)
              ∙ (λ i. blocks_faultless first of more are sorted i ++ settled_here.1 i);
          few = few_outside all more declare.few are.few;
        },
      ))
      (definition_says source total first None 0 behind others opens false it sayable.each.0 flaws.0 after)

  -- namespaces say members that mean their text form
  all_say : (entries : Entries) → SayableEntries entries → namespaces_flaw first entries ≡ None
      → Says source total (namespaces_pieces first false entries) (MembersOf (fragment_form first (entries_written entries)))
  unfolding IsStrictlySortedBy
  all_say [] sayable flawless = named_says [] tt sayable flawless
  all_say ((None, it) ∷ rest) sayable flawless = outside_says it rest (named_behind None rest sayable.sorted.0) sayable flawless
  all_say ((Some name, it) ∷ rest) sayable flawless =
      named_says ((Some name, it) ∷ rest) (tt, named_behind (Some (plain_name name)) rest sayable.sorted.0) sayable flawless

-- a fragment says members that mean its text form
pub fragment_says : (source total : ℕ) (first : First) (it : Fragment RawName) → SayableFragment it → IsWritable first it
    → Says source total (fragment_pieces first it) (MembersOf (fragment_form first (written_fragment it)))
fragment_says source total first it sayable writable =
    all_say source total first it.0.entries (record { sorted = sayable.sorted; each = sayable.each }) writable
