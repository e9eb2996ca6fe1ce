-- Declarations of entity types as they are written, and those that are read of them.
use Rattle.std.proofs.Common.{◌≡◌, ℕ, ◌≤◌, max, Bool, true, false, cond, List, [], ◌∷◌, ◌++◌, map, Option, Some, None, option_map, codes, refl, sym, ap, ap₂, subst, ◌∙◌, inl, inr, arith}
use Rattle.std.proofs.lemmas.Bool.{false≢true}
use Rattle.std.proofs.lemmas.Simd.{map-map}
use Rattle.std.proofs.lemmas.Str.{IsUtf8-string_bytes}
use Rattle.std.specs.List.{flat_map}
use Rattle.cedar_ast.proofs.TextsOfNames.{IsOfIdentifiers-name_of}
use Rattle.cedar_ast.specs.Words.{PlainName, Text, eid_text, items_of, unreserved_id_text}
use Rattle.cedar_ast.specs.declared.eid.Eid.{Eid}
use Rattle.cedar_ast.specs.declared.loc.Loc.{Loc}
use Rattle.cedar_ast.specs.declared.unreserved_id.UnreservedId.{UnreservedId}
use Rattle.cedar_json.proofs.NameLemmas.{is_unreserved-id}
use Rattle.cedar_json.specs.EntityFormat.{WrittenEntity, written_entity, written_kind}
use Rattle.cedar_schema_ast.specs.Words.{Expr, Reference, enumerated, member, no_member, raw_expr, raw_name, raw_reference, record_expr, reference_to, standard}
use Rattle.cedar_schema_ast.specs.declared.json_schema.entity_type.EntityType.{EntityType}
use Rattle.cedar_schema_ast.specs.declared.json_schema.entity_type.EntityTypeKind.{EntityTypeKind}
use Rattle.cedar_schema_ast.specs.declared.json_schema.entity_type.EntityTypeKind.TheVariants as kind
use Rattle.cedar_schema_ast.specs.declared.json_schema.raw_name.RawName.{RawName}
use Rattle.cedar_schema_ast.specs.declared.json_schema.reference_type.ReferenceType.TheVariants.{Entity}
use Rattle.cedar_schema_ast.specs.declared.json_schema.type_of.Type.{«Type»}
use Rattle.cedar_schema_grammar.specs.Grammar.{ArePaths, AreTags, Form, IsBelow, IsBody, IsDeclaration, IsExternal, IsPath, IsShape, IsText, between, mark, nothing, token, token_at, ◌then◌}
use Rattle.cedar_schema_grammar.specs.Grammar.{word as word_form}
use Rattle.cedar_schema_grammar.specs.Tree.{Body, Declaration, Name, Path, Ty, choices, entity, level_if, level_of_body, level_of_declaration, record_of}
use Rattle.cedar_schema_grammar.specs.Tree.{standard as standard_body}
use Rattle.cedar_schema_text.specs.Faults.{body_faults, entity_faults, if_there, name_faults, noted_faults, reserved, type_faults, unless}
use Rattle.cedar_schema_text.specs.Meaning.{actions_of, commons_of, entities_of, entity_meant, kind_meant, name_meant, shape_meant, type_meant}
use Rattle.cedar_schema_text.specs.Meaning.{Entity as MeantEntity}
use Rattle.cedar_schema_text_laws.proofs.ListTexts.{ItemOf, ListOf, Opens-append, SomeOf, list_says, some_list_says}
use Rattle.cedar_schema_text_laws.proofs.PathTexts.{PathOf, id_of_identifier, path_says}
use Rattle.cedar_json_laws.proofs.Placed.{expr_in, types_placed}
use Rattle.cedar_schema_text_laws.proofs.Said.{entity_said, entity_type_said, kind_said, type_said}
use Rattle.cedar_schema_text_laws.proofs.Tokens.{Opens, Opens-none, Says, says_blank, says_equals, says_last, says_nothing, says_quoted, says_semicolon, says_so, says_then, says_word}
use Rattle.cedar_schema_text_laws.proofs.TypeTexts.{RecordOf, TypeOf, closed, fields_say, nest, no_name_faults, type_says}
use Rattle.cedar_schema_text_laws.proofs.WritableTypes.{IsSaid, cond_other, said_pieces, said_type}
use Rattle.cedar_schema_text_laws.specs.Sayable.{Sayable, SayableIf, SayableKind}
use Rattle.cedar_schema_text_laws.specs.TextForm.{body_form, entity_form, type_form}
use Rattle.cedar_schema_text_writer.proofs.Flawless.{neither}
use Rattle.cedar_schema_text_writer.specs.Flaws.{entity_kind_flaw, entity_type_flaw, is_record, open_flaw, shape_flaw, tags_flaw, type_flaw}
use Rattle.cedar_schema_text_writer.specs.Layout.{entity_pieces, external_pieces, kind_pieces, parents_pieces, raw_pieces, shape_pieces, tags_pieces, written_pieces}
use Rattle.cedar_schema_text_writer.specs.Names.{First}
use Rattle.cedar_schema_text_writer.specs.Pieces.{Piece, blank, list_pieces, quoted, sign, word}
use Rattle.cedar_schema_text_writer.specs.TypeLayout.{is_empty_record, type_pieces}
use Rattle.cedar_schema_text_writer.specs.declared.fault.Part.TheVariants as part
use Rattle.cedar_schema_text_writer.specs.declared.fault.Unwritable.TheVariants as what
use Rattle.cedar_schema_tokens.specs.Token.{Token, text}
use Rattle.cedar_schema_tokens.specs.declared.token.Symbol.TheVariants as mark_of

both_below : (a b : ℕ) → a ≤ 128 → b ≤ 128 → max a b ≤ 128
both_below a b one other = omega (arith, one, other)

-- ---- names of entity types

-- a path as the name of an entity type
abbrev pub path_said : Path → Reference
path_said p = entity_said (name_meant p)

-- paths that are these names
abbrev pub PathsOf : List RawName → (List Path → Form) → Form
PathsOf names form ts rest =
    (ps : List Path) × form ps ts rest × (map path_said ps ≡ map (raw_reference None Entity) names) × (flat_map name_faults ps ≡ [])

module _ (source total : ℕ) where
  pub raw_says : (name : RawName) → Says source total (raw_pieces name) (ItemOf raw_pieces IsPath path_said (raw_reference None Entity) name_faults name)
  raw_says name =
      says_so source total (raw_pieces name) (PathOf (raw_name name)) (ItemOf raw_pieces IsPath path_said (raw_reference None Entity) name_faults name)
      (λ ts rest is. (is.0, is.1, ap (reference_to None Entity) is.2, no_name_faults is.0.ids is.0.loc is.3))
      (path_says source total (raw_name name) (IsOfIdentifiers-name_of name.0))

  pub paths_say : (names : List RawName) → Says source total (list_pieces raw_pieces names) (PathsOf names ArePaths)
  paths_say names =
      says_so source total (list_pieces raw_pieces names)
      (mark mark_of.OpenBracket then ListOf raw_pieces IsPath path_said (raw_reference None Entity) name_faults names then mark mark_of.CloseBracket)
      (PathsOf names ArePaths) (λ ts rest is. (is.2.1.0, inr (is.0, is.1, (is.2.0, is.2.1.1, is.2.2)), is.2.1.2, is.2.1.3))
      (list_says raw_pieces IsPath path_said (raw_reference None Entity) name_faults source total raw_says names)

  parents_say : (names : List RawName) → Says source total (parents_pieces names) (PathsOf names IsBelow)
  parents_say [] = says_so source total [] nothing (PathsOf [] IsBelow) (λ ts rest is. ([], inr is, refl, refl)) (says_nothing source total)
  parents_say (name ∷ names) =
      let list = list_pieces raw_pieces (name ∷ names) in
      says_blank source total (word (codes "in") ∷ blank ∷ list) (PathsOf (name ∷ names) IsBelow)
      (says_so source total (word (codes "in") ∷ blank ∷ list) (word_form (codes "in") then PathsOf (name ∷ names) ArePaths) (PathsOf (name ∷ names) IsBelow)
      (λ ts rest is. (is.2.0, inl (is.0, is.1, is.2.1), is.2.2, is.2.3))
      (says_word source total (codes "in") (blank ∷ list) (PathsOf (name ∷ names) ArePaths) refl (λ all ended. refl)
      (says_blank source total list (PathsOf (name ∷ names) ArePaths) (paths_say (name ∷ names)))))

  parents_open : (names : List RawName) → Opens (parents_pieces names)
  parents_open [] = Opens-none
  parents_open (name ∷ names) = λ all ended. refl

  -- the word before what is defined elsewhere
  pub external_says : (external : Bool) (pieces : List Piece) (form : Form) → Says source total pieces form
      → Says source total (external_pieces external ++ pieces) (IsExternal external then form)
  external_says true pieces form says =
      says_word source total (codes "external") (blank ∷ pieces) form refl (λ all ended. refl) (says_blank source total pieces form says)
  external_says false pieces form says = says_so source total pieces form (nothing then form) (λ ts rest is. (ts, refl, is)) says

  pub semicolon_says : Says source total (sign (codes ";") ∷ []) (mark mark_of.Semicolon)
  semicolon_says =
      says_last source total (sign (codes ";") ∷ []) (mark mark_of.Semicolon) (says_semicolon source total [] nothing (says_nothing source total))

-- ---- declarations

-- a declaration that declares one entity type and nothing else
pub record DeclaresEntity (given : Text × WrittenEntity) (d : Declaration) : Type 0 where
  pub meant : MeantEntity
  pub entities : entities_of d.item ≡ meant ∷ []
  pub actions : actions_of d.loc d.item ≡ []
  pub commons : commons_of d.item ≡ []
  pub said : ((entity_meant meant).0, entity_type_said (entity_meant meant).1) ≡ given
  pub faultless : entity_faults meant ≡ []
  pub few : level_of_declaration d ≤ 128
  pub noted : noted_faults d ≡ []

-- the declaration of an entity type under an id
abbrev pub EntityOf : First → Option PlainName → UnreservedId → EntityType RawName → Form
EntityOf first namespace id it ts rest =
    (d : Declaration) × IsDeclaration d ts rest × DeclaresEntity (unreserved_id_text id, entity_form first namespace (written_entity it)) d

-- ---- shapes and tags

module _ (source total : ℕ) (first : First) (namespace : Option PlainName) where
  -- a shape that says a type
  abbrev ShapeOf : Expr → Form
  ShapeOf e ts rest =
      (shape : Option Ty) × IsShape shape ts rest × (type_said (shape_meant shape) ≡ type_form first namespace e) × (level_if shape ≤ 128)
      × (if_there type_faults shape ≡ [])

  abbrev shape_written : ℕ → Expr → List Piece
  shape_written level x = cond (is_empty_record x) [] (blank ∷ sign (codes "=") ∷ blank ∷ type_pieces first namespace level x)

  shape_by : (level : ℕ) (e : Expr) → IsSaid first namespace part.Shape e → is_record (expr_in namespace e) ≡ true
      → Says source total (shape_written level (expr_in namespace e)) (ShapeOf e)
  shape_by level (record_expr no_member additional) it is =
      let shut = closed part.Shape additional (neither (open_flaw part.Shape additional) None it.flawless).0 in
      says_so source total [] nothing (ShapeOf (record_expr no_member additional))
      (λ ts rest here. (None, here, ap (record_expr no_member) (sym shut), omega arith, refl)) (says_nothing source total)
  shape_by level (record_expr (member name required ty rest) additional) it is =
      let e = record_expr (member name required ty rest) additional in
      let written = type_pieces first namespace level (expr_in namespace e) in
      let form = RecordOf (type_form first namespace e) (nest e) in
      says_blank source total (sign (codes "=") ∷ blank ∷ written) (ShapeOf e)
      (says_so source total (sign (codes "=") ∷ blank ∷ written) (mark mark_of.Equals then form) (ShapeOf e)
      (λ ts left here. (
        Some (record_of here.2.0 here.2.1),
        (here.0, inl here.1, here.2.2),
        here.2.3,
        subst (λ n. n ≤ 128) (sym here.2.4) it.few,
        here.2.5,
      ))
      (says_equals source total (blank ∷ written) form (says_blank source total written form
      (fields_say source total first namespace part.Shape level (member name required ty rest) additional it.sayable it.flawless))))
  shape_by level _ it is = absurd (false≢true is)

  pub shape_says : (level : ℕ) (ty : «Type» RawName) → Sayable (raw_expr None ty) → shape_flaw first namespace ty ≡ None
      → Says source total (shape_pieces first namespace level ty) (ShapeOf (raw_expr None ty))
  shape_says level ty sayable flawless =
      let placed = types_placed namespace ty in
      let parts = cond_other (is_record (raw_expr namespace ty)) (type_flaw first namespace part.Shape ty) (record { what = what.ShapeIsNoRecord; part = part.Shape }) flawless in
      subst (λ (x : Expr). Says source total (shape_written level x) (ShapeOf (raw_expr None ty))) (sym placed)
      (shape_by level (raw_expr None ty) (said_type first namespace part.Shape ty sayable parts.1) (sym (ap is_record placed) ∙ parts.0))

  -- tags that say a type, if any
  abbrev TagsOf : Option («Type» RawName) → Form
  TagsOf given ts rest =
      (tags : Option Ty) × AreTags tags ts rest
      × (option_map type_said (option_map type_meant tags) ≡ option_map (type_form first namespace) (option_map (raw_expr None) given))
      × (level_if tags ≤ 128) × (if_there type_faults tags ≡ [])

  tags_say : (level : ℕ) (given : Option («Type» RawName)) → SayableIf given → tags_flaw first namespace given ≡ None
      → Says source total (tags_pieces first namespace level given) (TagsOf given)
  tags_say level None sayable flawless =
      says_so source total [] nothing (TagsOf None) (λ ts rest here. (None, here, refl, omega arith, refl)) (says_nothing source total)
  tags_say level (Some ty) sayable flawless =
      let e = raw_expr None ty in
      let it = said_type first namespace part.Tags ty sayable flawless in
      let form = TypeOf (type_form first namespace e) (nest e) in
      let says : Says source total (written_pieces first namespace level ty) form =
      subst (λ (pieces : List Piece). Says source total pieces form) (said_pieces first namespace level ty)
      (type_says source total first namespace part.Tags level e it.sayable it.flawless) in
      let written = written_pieces first namespace level ty in
      says_blank source total (word (codes "tags") ∷ blank ∷ written) (TagsOf (Some ty))
      (says_so source total (word (codes "tags") ∷ blank ∷ written) (word_form (codes "tags") then form) (TagsOf (Some ty))
      (λ ts rest here. (
        Some here.2.0,
        (here.0, here.1, here.2.1),
        ap Some here.2.2,
        subst (λ n. n ≤ 128) (sym here.2.3) it.few,
        here.2.4,
      ))
      (says_word source total (codes "tags") (blank ∷ written) form refl (λ all ended. refl) (says_blank source total written form says)))

  tags_open : (level : ℕ) (given : Option («Type» RawName)) → Opens (tags_pieces first namespace level given)
  tags_open level None = Opens-none
  tags_open level (Some ty) = λ all ended. refl

  shape_open : (level : ℕ) (ty : «Type» RawName) → Opens (shape_pieces first namespace level ty)
  shape_open level ty = by (is_empty_record (raw_expr namespace ty)) where
    by : (empty : Bool) → Opens (cond empty [] (blank ∷ sign (codes "=") ∷ blank ∷ written_pieces first namespace level ty))
    by true = Opens-none
    by false = λ all ended. refl

  -- ---- what is declared

  -- a body that says a kind
  abbrev KindOf : EntityTypeKind RawName → Form
  KindOf it ts rest =
      (body : Body) × IsBody body ts rest × (kind_said (kind_meant body) ≡ body_form first namespace (written_kind it)) × (level_of_body body ≤ 128)
      × ((loc : Loc) → body_faults loc body ≡ [])

  choice_says : (id : Eid) → Says source total (quoted (eid_text id) ∷ []) (ItemOf (λ id. quoted (eid_text id) ∷ []) IsText (λ (x : Name). x.text) eid_text (λ x. []) id)
  choice_says id =
      says_so source total (quoted (eid_text id) ∷ []) (token (text (eid_text id)) then nothing)
      (ItemOf (λ id. quoted (eid_text id) ∷ []) IsText (λ (x : Name). x.text) eid_text (λ x. []) id)
      (λ ts rest is. (record { text = eid_text id; loc = is.1.0 }, subst (λ (last : List Token). token_at (text (eid_text id)) is.1.0 ts last) is.2 is.1.1, refl, refl))
      (says_quoted source total (eid_text id) [] nothing (IsUtf8-string_bytes id.0) (says_nothing source total))

  kind_says : (level : ℕ) (it : EntityTypeKind RawName) → SayableKind it → entity_kind_flaw first namespace it ≡ None
      → Says source total (kind_pieces first namespace level it) (KindOf it)
  kind_says level (kind.Enum ids) sayable flawless =
      let item = λ (id : Eid). quoted (eid_text id) ∷ [] in
      let list = list_pieces item (items_of ids) in
      let form = mark mark_of.OpenBracket then SomeOf item IsText (λ (x : Name). x.text) eid_text (λ x. []) (items_of ids) then mark mark_of.CloseBracket in
      says_blank source total (word (codes "enum") ∷ blank ∷ list) (KindOf (kind.Enum ids))
      (says_so source total (word (codes "enum") ∷ blank ∷ list) (word_form (codes "enum") then form) (KindOf (kind.Enum ids))
      (λ ts rest is. (
        choices (is.2.2.1.0 ∷ is.2.2.1.1),
        (is.0, is.1, (is.2.0, is.2.1, (is.2.2.0, (is.2.2.0, is.2.2.1.2, inr refl), is.2.2.2))),
        ap enumerated is.2.2.1.3,
        omega arith,
        λ loc. refl,
      ))
      (says_word source total (codes "enum") (blank ∷ list) form refl (λ all ended. refl) (says_blank source total list form
      (some_list_says item IsText (λ (x : Name). x.text) eid_text (λ x. []) source total choice_says ids.head ids.tail.items))))
  kind_says level (kind.Standard it) sayable flawless =
      let parents = it.member_of_types.items in
      let shape = shape_pieces first namespace level it.shape.0 in
      let tags = tags_pieces first namespace level it.tags in
      let flaws = neither (shape_flaw first namespace it.shape.0) (tags_flaw first namespace it.tags) flawless in
      let form = PathsOf parents IsBelow then ShapeOf (raw_expr None it.shape.0) then TagsOf it.tags in
      says_so source total (parents_pieces parents ++ (shape ++ tags)) form (KindOf (kind.Standard it))
      (λ ts rest is. (
        standard_body is.1.0 is.2.1.0 is.2.2.0,
        (is.0, is.1.1, (is.2.0, is.2.1.1, is.2.2.1)),
        (λ i. standard ((map-map entity_said name_meant is.1.0 ∙ is.1.2) i) (is.2.1.2 i) (is.2.2.2 i)),
        both_below (level_if is.2.1.0) (level_if is.2.2.0) is.2.1.3 is.2.2.3,
        λ loc i. (is.1.3 i ++ is.2.1.4 i) ++ is.2.2.4 i,
      ))
      (says_then source total (parents_pieces parents) (shape ++ tags) (PathsOf parents IsBelow) (ShapeOf (raw_expr None it.shape.0) then TagsOf it.tags)
      (parents_say source total parents) (Opens-append shape tags (shape_open level it.shape.0) (tags_open level it.tags))
      (says_then source total shape tags (ShapeOf (raw_expr None it.shape.0)) (TagsOf it.tags) (shape_says level it.shape.0 sayable.0 flaws.0)
      (tags_open level it.tags) (tags_say level it.tags sayable.1 flaws.1)))

  kind_open : (level : ℕ) (it : EntityTypeKind RawName) → Opens (kind_pieces first namespace level it)
  kind_open level (kind.Enum ids) = λ all ended. refl
  kind_open level (kind.Standard it) =
      Opens-append (parents_pieces it.member_of_types.items) (shape_pieces first namespace level it.shape.0 ++ tags_pieces first namespace level it.tags)
      (parents_open source total it.member_of_types.items) (Opens-append (shape_pieces first namespace level it.shape.0) (tags_pieces first namespace level it.tags)
      (shape_open level it.shape.0) (tags_open level it.tags))

  entity_read : (id : UnreservedId) (it : EntityType RawName) (ts rest : List Token)
      → (IsExternal it.external then word_form (codes "entity") then word_form (unreserved_id_text id) then KindOf it.kind then mark mark_of.Semicolon) ts rest
      → EntityOf first namespace id it ts rest
  entity_read id it ts rest (a, external, (b, keyword, (c, (loc, is_word), (d, (body, is_body, said, few, faultless), end)))) =
      let x : Name = record { text = unreserved_id_text id; loc = loc } in (
        record { annotations = []; item = entity it.external (x ∷ []) body; loc = between ts rest },
        (ts, refl, ((d, (a, external, (b, keyword, (c, is_word, is_body))), end), refl)),
        record {
          meant = record { name = x; external = it.external; body = body };
          entities = refl;
          actions = refl;
          commons = refl;
          said = λ i. (unreserved_id_text id, record { body = said i; external = it.external });
          faultless = ap₂ (λ xs ys. xs ++ ys) (ap (λ test. unless test (reserved loc)) (is_unreserved-id id)) (faultless loc);
          few = few;
          noted = refl;
        },
      )

  pub entity_says : (level : ℕ) (id : UnreservedId) (it : EntityType RawName) → SayableKind it.kind → entity_type_flaw first namespace it ≡ None
      → Says source total (entity_pieces first namespace level id it) (EntityOf first namespace id it)
  entity_says level id it sayable flawless =
      let kind_written = kind_pieces first namespace level it.kind in
      let behind = kind_written ++ sign (codes ";") ∷ [] in
      let named = word (unreserved_id_text id) ∷ behind in
      let form = word_form (unreserved_id_text id) then KindOf it.kind then mark mark_of.Semicolon in
      says_so source total (entity_pieces first namespace level id it) (IsExternal it.external then word_form (codes "entity") then form) (EntityOf first namespace id it)
      (entity_read id it)
      (external_says source total it.external (word (codes "entity") ∷ blank ∷ named) (word_form (codes "entity") then form)
      (says_word source total (codes "entity") (blank ∷ named) form refl (λ all ended. refl) (says_blank source total named form
      (says_word source total (unreserved_id_text id) behind (KindOf it.kind then mark mark_of.Semicolon) (id_of_identifier (unreserved_id_text id) id.id.identifier)
      (Opens-append kind_written (sign (codes ";") ∷ []) (kind_open level it.kind) (λ all ended. refl))
      (says_then source total kind_written (sign (codes ";") ∷ []) (KindOf it.kind) (mark mark_of.Semicolon) (kind_says level it.kind sayable flawless)
      (λ all ended. refl) (semicolon_says source total))))))
