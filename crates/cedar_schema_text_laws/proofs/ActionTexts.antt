-- Declarations of actions as they are written, and those that are read of them.
use Rattle.std.proofs.Common.{◌≡◌, ℕ, suc, ◌≤◌, max, Bool, true, false, cond, List, [], ◌∷◌, ◌++◌, map, Option, Some, None, option_map, is_some, String, Global, string_bytes, codes, refl, sym, ap, ap₂, subst, ◌∙◌, inl, inr, arith, IsUtf8}
use Rattle.std.proofs.lemmas.Bool.{false≢true}
use Rattle.std.proofs.lemmas.Simd.{map-map}
use Rattle.std.proofs.lemmas.Str.{IsUtf8-string_bytes}
use Rattle.std.specs.List.{flat_map}
use Rattle.std.specs.declared.vec.Vec.{Vec}
use Rattle.cedar_ast.proofs.TextsOfNames.{IsOfIdentifiers-name_of}
use Rattle.cedar_ast.specs.Words.{PlainName, Text}
use Rattle.cedar_ast.specs.declared.loc.Loc.{Loc}
use Rattle.cedar_json.specs.ActionFormat.{WrittenAction, WrittenParent, written_action, written_pairs, written_parent, written_requests}
use Rattle.cedar_schema_ast.specs.Words.{Expr, member, named, no_member, raw_expr, raw_name, raw_reference, record_expr, reference_to, requests}
use Rattle.cedar_schema_ast.specs.declared.json_schema.action_type.ActionEntityUID.{ActionEntityUID}
use Rattle.cedar_schema_ast.specs.declared.json_schema.action_type.ActionType.{ActionType}
use Rattle.cedar_schema_ast.specs.declared.json_schema.action_type.ApplySpec.{ApplySpec}
use Rattle.cedar_schema_ast.specs.declared.json_schema.raw_name.RawName.{RawName}
use Rattle.cedar_schema_ast.specs.declared.json_schema.reference_type.ReferenceType.TheVariants.{Common, Entity}
use Rattle.cedar_schema_ast.specs.declared.json_schema.type_of.Type.{«Type»}
use Rattle.cedar_schema_grammar.specs.Grammar.{ArePaths, Form, IsApplies, IsContext, IsDeclaration, IsExternal, IsIn, IsName, IsParent, IsPart, between, mark, nothing, some, token, token_at, ◌then◌}
use Rattle.cedar_schema_grammar.specs.Grammar.{word as word_form}
use Rattle.cedar_schema_grammar.specs.Tree.{Applies, Declaration, Parent, Part, Ty, action, context, level, level_if, level_of_applies, level_of_declaration, principals, record_of, resources}
use Rattle.cedar_schema_grammar.specs.Tree.{named as path_type}
use Rattle.cedar_schema_text.specs.Faults.{action_faults, if_there, noted_faults, parent_faults, requests_faults, type_faults}
use Rattle.cedar_schema_text.specs.Meaning.{action_meant, actions_of, commons_of, context_meant, entities_of, name_meant, parent_meant, requests_meant}
use Rattle.cedar_schema_text.specs.Meaning.{Action as MeantAction}
use Rattle.cedar_schema_text_laws.proofs.EntityTexts.{PathsOf, external_says, paths_say, semicolon_says}
use Rattle.cedar_schema_text_laws.proofs.ListTexts.{ListOf, Opens-append, list_says}
use Rattle.cedar_schema_text_laws.proofs.PathTexts.{PathOf, path_says}
use Rattle.cedar_json_laws.proofs.Placed.{expr_in, names_in, types_placed}
use Rattle.cedar_schema_text_laws.proofs.Said.{action_said, entity_said, parent_said, requests_said, type_said}
use Rattle.cedar_schema_text_laws.proofs.Tokens.{Opens, Opens-none, Says, says_blank, says_close_brace, says_colon, says_comma, says_last, says_line, says_nothing, says_open_brace, says_path_separator, says_quoted, says_so, says_then, says_word}
use Rattle.cedar_schema_text_laws.proofs.TypeTexts.{NameOf, RecordOf, closed, fields_say, name_says, nest, no_name_faults}
use Rattle.cedar_schema_text_laws.proofs.WritableTypes.{IsSaid, cond_none, said_type}
use Rattle.cedar_schema_text_laws.specs.Sayable.{Sayable, SayableRequests}
use Rattle.cedar_schema_text_laws.specs.TextForm.{action_form, context_form, requests_form, type_form}
use Rattle.cedar_schema_text_writer.proofs.Flawless.{neither}
use Rattle.cedar_schema_text_writer.proofs.Reserved.{last_possible}
use Rattle.cedar_schema_text_writer.specs.Flaws.{action_flaw, applies_to_flaw, context_flaw, context_name_flaw, is_record, open_flaw, type_flaw}
use Rattle.cedar_schema_text_writer.specs.Layout.{action_pieces, applies_to_pieces, context_pieces, member_of_pieces, parent_pieces, parent_pieces_by, parts_pieces, raw_pieces, types_pieces}
use Rattle.cedar_schema_text_writer.specs.Names.{First, last_name}
use Rattle.cedar_schema_text_writer.specs.Pieces.{Piece, blank, line, list_pieces, path_pieces, quoted, sign, word}
use Rattle.cedar_schema_text_writer.specs.TypeLayout.{is_empty_record, name_piece, type_pieces}
use Rattle.cedar_schema_text_writer.specs.declared.fault.Part.TheVariants as part
use Rattle.cedar_schema_text_writer.specs.declared.fault.Unwritable.TheVariants as what
use Rattle.cedar_schema_tokens.specs.Token.{Token, text}
use Rattle.cedar_schema_tokens.specs.Written.{is_id}
use Rattle.cedar_schema_tokens.specs.declared.token.Symbol.TheVariants as mark_of

-- ---- declarations

-- a declaration that declares one action and nothing else
pub record DeclaresAction (given : Text × WrittenAction) (d : Declaration) : Type 0 where
  pub meant : MeantAction
  pub actions : actions_of d.loc d.item ≡ meant ∷ []
  pub entities : entities_of d.item ≡ []
  pub commons : commons_of d.item ≡ []
  pub said : ((action_meant meant).0, action_said (action_meant meant).1) ≡ given
  pub faultless : action_faults meant ≡ []
  pub few : level_of_declaration d ≤ 128
  pub noted : noted_faults d ≡ []

-- the declaration of an action under an id
abbrev pub ActionOf : First → Option PlainName → Text → ActionType RawName → Form
ActionOf first namespace id it ts rest =
    (d : Declaration) × IsDeclaration d ts rest × DeclaresAction (id, action_form first namespace (written_action it)) d

pub none_there : {A : Type 0} (it : Option A) → is_some it ≡ false → it ≡ None
none_there None is = refl
none_there (Some it) is = absurd cc

-- ---- parents

-- a parent says its id and the name of its type
abbrev pub parent_read : Parent → WrittenParent
parent_read p = parent_said (parent_meant p)

abbrev ParentOf : Option RawName → Text → Form
ParentOf ty id ts rest =
    (p : Parent) × IsParent p ts rest × (parent_read p ≡ (id, option_map (raw_reference None Entity) ty)) × (parent_faults p ≡ [])

module _ (source total : ℕ) where
  parent_by : (ty : Option RawName) (id : Text) → IsUtf8 id → Says source total (parent_pieces_by ty id) (ParentOf ty id)
  parent_by None id utf8 =
      says_so source total (name_piece id ∷ []) (NameOf id then nothing) (ParentOf None id)
      (λ ts rest is. (
        record { ty = None; id = is.1.0; loc = between ts rest },
        (subst (λ (last : List Token). IsName is.1.0 ts last) is.2 is.1.1, refl),
        ap (λ (id : Text). (id, None)) is.1.2,
        refl,
      ))
      (name_says source total id [] nothing utf8 Opens-none (says_nothing source total))
  parent_by (Some ty) id utf8 =
      let ending = sign (codes "::") ∷ quoted id ∷ [] in
      says_so source total (raw_pieces ty ++ ending) (PathOf (raw_name ty) then mark mark_of.PathSeparator then token (text id) then nothing) (ParentOf (Some ty) id)
      (λ ts rest is. (
        record { ty = Some is.1.0; id = record { text = id; loc = is.2.2.1.0 }; loc = between ts rest },
        ((is.0, is.1.1, (is.2.0, is.2.1, subst (λ (last : List Token). token_at (text id) is.2.2.1.0 is.2.0 last) is.2.2.2 is.2.2.1.1)), refl),
        ap (λ (name : PlainName). (id, Some (reference_to None Entity name))) is.1.2,
        no_name_faults is.1.0.ids is.1.0.loc is.1.3,
      ))
      (says_then source total (raw_pieces ty) ending (PathOf (raw_name ty)) (mark mark_of.PathSeparator then token (text id) then nothing)
      (path_says source total (raw_name ty) (IsOfIdentifiers-name_of ty.0)) (λ all ended. refl)
      (says_path_separator source total (quoted id ∷ []) (token (text id) then nothing)
      (says_quoted source total id [] nothing utf8 (says_nothing source total))))

  -- parents that are listed, if any are
  abbrev MembersOf : Option (Vec (ActionEntityUID RawName) Global) → Form
  MembersOf given ts rest =
      (ps : Option (List Parent)) × IsIn ps ts rest
      × (option_map (map parent_said) (option_map (map parent_meant) ps) ≡ option_map (λ (v : Vec (ActionEntityUID RawName) Global). map written_parent v.items) given)
      × (if_there (flat_map parent_faults) ps ≡ [])

  members_say : (given : Option (Vec (ActionEntityUID RawName) Global)) → Says source total (member_of_pieces given) (MembersOf given)
  members_say None = says_so source total [] nothing (MembersOf None) (λ ts rest is. (None, is, refl, refl)) (says_nothing source total)
  members_say (Some parents) =
      let list = list_pieces parent_pieces parents.items in
      let form = mark mark_of.OpenBracket then ListOf parent_pieces IsParent parent_read written_parent parent_faults parents.items then mark mark_of.CloseBracket in
      says_blank source total (word (codes "in") ∷ blank ∷ list) (MembersOf (Some parents))
      (says_so source total (word (codes "in") ∷ blank ∷ list) (word_form (codes "in") then form) (MembersOf (Some parents))
      (λ ts rest is. (
        Some is.2.2.1.0,
        (is.0, is.1, inr (is.2.0, is.2.1, (is.2.2.0, is.2.2.1.1, is.2.2.2))),
        ap Some (map-map parent_said parent_meant is.2.2.1.0 ∙ is.2.2.1.2),
        is.2.2.1.3,
      ))
      (says_word source total (codes "in") (blank ∷ list) form refl (λ all ended. refl) (says_blank source total list form
      (list_says parent_pieces IsParent parent_read written_parent parent_faults source total
      (λ it. parent_by it.ty (string_bytes it.id) (IsUtf8-string_bytes it.id)) parents.items))))

  members_open : (given : Option (Vec (ActionEntityUID RawName) Global)) → Opens (member_of_pieces given)
  members_open None = Opens-none
  members_open (Some parents) = λ all ended. refl

  -- ---- requests

  -- a part that lists types, with a comma behind it
  abbrev TypesOf : Text → List RawName → Form
  TypesOf keyword names = word_form keyword then mark mark_of.Colon then PathsOf names ArePaths then mark mark_of.Comma

  comma_says : Says source total (sign (codes ",") ∷ []) (mark mark_of.Comma)
  comma_says = says_last source total (sign (codes ",") ∷ []) (mark mark_of.Comma) (says_comma source total [] nothing (says_nothing source total))

  types_say : (level : ℕ) (keyword : Text) (names : List RawName) → is_id keyword ≡ true
      → Says source total (types_pieces level keyword names) (TypesOf keyword names)
  types_say level keyword names is =
      let list = list_pieces raw_pieces names ++ sign (codes ",") ∷ [] in
      let form = PathsOf names ArePaths then mark mark_of.Comma in
      says_line source total level (word keyword ∷ sign (codes ":") ∷ blank ∷ list) (TypesOf keyword names)
      (says_word source total keyword (sign (codes ":") ∷ blank ∷ list) (mark mark_of.Colon then form) is (λ all ended. refl)
      (says_colon source total list form
      (says_then source total (list_pieces raw_pieces names) (sign (codes ",") ∷ []) (PathsOf names ArePaths) (mark mark_of.Comma) (paths_say source total names)
      (λ all ended. refl) comma_says)))

  module _ (first : First) (namespace : Option PlainName) where
    -- a context with a comma behind it, if there is one
    abbrev ContextForm : Option Ty → Form
    ContextForm None = nothing
    ContextForm (Some ty) = word_form (codes "context") then mark mark_of.Colon then IsContext ty then mark mark_of.Comma

    -- a context that says an expression
    abbrev ContextOf : Expr → Form
    ContextOf e ts rest =
        (it : Option Ty) × ContextForm it ts rest × (type_said (context_meant it) ≡ context_form first namespace e) × (level_if it ≤ 128)
        × (if_there type_faults it ≡ [])

    -- a context that is there
    abbrev SomeContextOf : Expr → Form
    SomeContextOf e ts rest =
        (ty : Ty) × IsContext ty ts rest × (type_said (context_meant (Some ty)) ≡ context_form first namespace e) × (level ty ≤ 128) × (type_faults ty ≡ [])

    abbrev context_written : ℕ → Expr → List Piece
    context_written level x =
        cond (is_empty_record x) []
        (line level ∷ word (codes "context") ∷ sign (codes ":") ∷ blank ∷ (type_pieces first namespace level x ++ sign (codes ",") ∷ []))

    -- a context stands on its line
    context_line : (level : ℕ) (e : Expr) → Says source total (type_pieces first namespace level (expr_in namespace e)) (SomeContextOf e)
        → Says source total (line level ∷ word (codes "context") ∷ sign (codes ":") ∷ blank ∷ (type_pieces first namespace level (expr_in namespace e) ++ sign (codes ",") ∷ [])) (ContextOf e)
    context_line level e says =
        let written = type_pieces first namespace level (expr_in namespace e) in
        let form = SomeContextOf e then mark mark_of.Comma in
        let behind = sign (codes ":") ∷ blank ∷ (written ++ sign (codes ",") ∷ []) in
        says_line source total level (word (codes "context") ∷ behind) (ContextOf e)
        (says_so source total (word (codes "context") ∷ behind) (word_form (codes "context") then mark mark_of.Colon then form) (ContextOf e)
        (λ ts rest is. (
          Some is.2.2.1.0,
          (is.0, is.1, (is.2.0, is.2.1, (is.2.2.0, is.2.2.1.1, is.2.2.2))),
          is.2.2.1.2,
          is.2.2.1.3,
          is.2.2.1.4,
        ))
        (says_word source total (codes "context") behind (mark mark_of.Colon then form) refl (λ all ended. refl)
        (says_colon source total (written ++ sign (codes ",") ∷ []) form
        (says_then source total written (sign (codes ",") ∷ []) (SomeContextOf e) (mark mark_of.Comma) says (λ all ended. refl) comma_says))))

    context_by : (level : ℕ) (e : Expr) → Sayable e → (is_record (expr_in namespace e) ≡ true → IsSaid first namespace part.Context e)
        → (is_record (expr_in namespace e) ≡ false → context_name_flaw first (expr_in namespace e) ≡ None)
        → Says source total (context_written level (expr_in namespace e)) (ContextOf e)
    context_by level (record_expr no_member additional) sayable it other =
        let shut = closed part.Context additional (neither (open_flaw part.Context additional) None (it refl).flawless).0 in
        says_so source total [] nothing (ContextOf (record_expr no_member additional))
        (λ ts rest here. (None, here, ap (record_expr no_member) (sym shut), omega arith, refl)) (says_nothing source total)
    context_by level (record_expr (member name required ty rest) additional) sayable it other =
        let e = record_expr (member name required ty rest) additional in
        let said = it refl in
        context_line level e
        (says_so source total (type_pieces first namespace level (expr_in namespace e)) (RecordOf (type_form first namespace e) (nest e)) (SomeContextOf e)
        (λ ts left here. (record_of here.0 here.1, here.2, here.3, subst (λ n. n ≤ 128) (sym here.4) said.few, here.5))
        (fields_say source total first namespace part.Context level (member name required ty rest) additional said.sayable said.flawless))
    context_by level (named reference) sayable it other =
        let name = sayable.0 in
        let form = named (record { possibilities = reference.possibilities; kind = Common }) in
        let same : named (reference_to None Common name) ≡ form =
        ap (λ (possible : List PlainName). named (record { possibilities = possible; kind = Common })) (sym sayable.2) in
        let says : Says source total (type_pieces first namespace level (expr_in namespace (named reference))) (PathOf name) =
        subst (λ (written : PlainName). Says source total (path_pieces written) (PathOf name))
        (sym (ap (λ (possible : List PlainName). last_name (names_in namespace possible)) sayable.2 ∙ last_possible namespace name))
        (path_says source total name sayable.1) in
        context_line level (named reference)
        (says_so source total (type_pieces first namespace level (expr_in namespace (named reference))) (PathOf name) (SomeContextOf (named reference))
        (λ ts rest is. (
          path_type is.0,
          is.1,
          ap (λ (each : PlainName). named (reference_to None Common each)) is.2 ∙ same,
          omega arith,
          no_name_faults is.0.ids is.0.loc is.3,
        )) says)
    context_by level _ sayable it other = absurd (let none = other refl in cc)

    cond_split : {A : Type 0} (test : Bool) (one other : Option A) → cond test one other ≡ None → (test ≡ true → one ≡ None) × (test ≡ false → other ≡ None)
    cond_split true one other none = (λ is. none, λ is. absurd (false≢true (sym is)))
    cond_split false one other none = (λ is. absurd (false≢true is), λ is. none)

    context_says : (level : ℕ) (ty : «Type» RawName) → Sayable (raw_expr None ty) → context_flaw first namespace ty ≡ None
        → Says source total (context_pieces first namespace level ty) (ContextOf (raw_expr None ty))
    context_says level ty sayable flawless =
        let placed = types_placed namespace ty in
        let parts = cond_split (is_record (raw_expr namespace ty)) (type_flaw first namespace part.Context ty) (context_name_flaw first (raw_expr namespace ty)) flawless in
        subst (λ (x : Expr). Says source total (context_written level x) (ContextOf (raw_expr None ty))) (sym placed)
        (context_by level (raw_expr None ty) sayable
        (λ is. said_type first namespace part.Context ty sayable (parts.0 (ap is_record placed ∙ is)))
        (λ is. sym (ap (context_name_flaw first) placed) ∙ parts.1 (ap is_record placed ∙ is)))

    context_open : (level : ℕ) (ty : «Type» RawName) → Opens (context_pieces first namespace level ty)
    context_open level ty = by (is_empty_record (raw_expr namespace ty)) where
      by : (empty : Bool) → Opens (cond empty [] (line level ∷ word (codes "context") ∷ sign (codes ":") ∷ blank
          ∷ (type_pieces first namespace level (raw_expr namespace ty) ++ sign (codes ",") ∷ [])))
      by true = Opens-none
      by false = λ all ended. refl

    -- an `appliesTo` that says the requests
    record ReadsRequests (given : ApplySpec RawName) (it : Applies) : Type 0 where
      said : requests_said (requests_meant it) ≡ requests_form first namespace (written_requests given)
      few : level_of_applies (Some it) ≤ 128
      faultless : requests_faults it ≡ []

    -- requests that say what an action is for, if anything
    abbrev AppliesOf : Option (ApplySpec RawName) → Form
    AppliesOf given ts rest =
        (it : Option Applies) × IsApplies it ts rest
        × (option_map requests_said (option_map requests_meant it) ≡ option_map (requests_form first namespace) (option_map written_requests given))
        × (level_of_applies it ≤ 128) × (if_there requests_faults it ≡ [])

    -- the parts between brackets
    abbrev PartsForm : ApplySpec RawName → Form
    PartsForm it =
        TypesOf (codes "principal") it.principal_types.items then TypesOf (codes "resource") it.resource_types.items
        then ContextOf (raw_expr None it.context.0)

    -- parts that say the requests
    abbrev PartsOf : ApplySpec RawName → Form
    PartsOf it ts rest =
        (ps : List Part) × some IsPart ps ts rest × ((loc : Loc) → ReadsRequests it (record { parts = ps; loc = loc }))

    one_highest : (n : ℕ) → n ≤ 128 → max 0 (max 0 (max n 0)) ≤ 128
    one_highest n few = omega (arith, few)

    parts_read : (it : ApplySpec RawName) (ts rest : List Token) → PartsForm it ts rest → PartsOf it ts rest
    parts_read it ts rest (
      a,
      (b, (p, is_p), (c, colon, (d, (ps, are_ps, ps_said, ps_clean), comma))),
      (e, (f, (r, is_r), (g, colon_r, (h, (rs, are_rs, rs_said, rs_clean), comma_r))), (None, last, said, few, clean)),
    ) = (
      record { says = principals ps; loc = p } ∷ record { says = resources rs; loc = r } ∷ [],
      (h, (d, (b, is_p, (c, colon, are_ps)), (a, comma, (f, is_r, (g, colon_r, are_rs)))), inl (subst (λ (end : List Token). mark mark_of.Comma h end) last comma_r)),
      λ loc. record {
        said = λ i. requests ((map-map entity_said name_meant ps ∙ ps_said) i) ((map-map entity_said name_meant rs ∙ rs_said) i) (said i);
        few = omega arith;
        faultless = λ i. (ps_clean i ++ rs_clean i) ++ [];
      },
    )
    parts_read it ts rest (
      a,
      (b, (p, is_p), (c, colon, (d, (ps, are_ps, ps_said, ps_clean), comma))),
      (e, (f, (r, is_r), (g, colon_r, (h, (rs, are_rs, rs_said, rs_clean), comma_r))), (Some ty, (k, (loc_c, is_c), (l, colon_c, (m, is_context, comma_c))), said, few, clean)),
    ) = (
      record { says = principals ps; loc = p } ∷ record { says = resources rs; loc = r } ∷ record { says = context ty; loc = loc_c } ∷ [],
      (m, (d, (b, is_p, (c, colon, are_ps)), (a, comma, (h, (f, is_r, (g, colon_r, are_rs)), (e, comma_r, (k, is_c, (l, colon_c, is_context)))))), inl comma_c),
      λ loc. record {
        said = λ i. requests ((map-map entity_said name_meant ps ∙ ps_said) i) ((map-map entity_said name_meant rs ∙ rs_said) i) (said i);
        few = one_highest (level ty) few;
        faultless = λ i. (ps_clean i ++ rs_clean i) ++ clean i;
      },
    )

    parts_say : (level : ℕ) (it : ApplySpec RawName) → Sayable (raw_expr None it.context.0) → context_flaw first namespace it.context.0 ≡ None
        → Says source total (parts_pieces first namespace level it) (PartsOf it)
    parts_say level it sayable flawless =
        let e = raw_expr None it.context.0 in
        let one = types_pieces level (codes "principal") it.principal_types.items in
        let other = types_pieces level (codes "resource") it.resource_types.items in
        let last = context_pieces first namespace level it.context.0 in
        let behind = TypesOf (codes "resource") it.resource_types.items then ContextOf e in
        says_so source total (one ++ (other ++ last)) (PartsForm it) (PartsOf it) (parts_read it)
        (says_then source total one (other ++ last) (TypesOf (codes "principal") it.principal_types.items) behind
        (types_say level (codes "principal") it.principal_types.items refl) (λ all ended. refl)
        (says_then source total other last (TypesOf (codes "resource") it.resource_types.items) (ContextOf e)
        (types_say level (codes "resource") it.resource_types.items refl) (context_open level it.context.0)
        (context_says level it.context.0 sayable flawless)))

    applies_say : (level : ℕ) (given : Option (ApplySpec RawName)) → SayableRequests given → applies_to_flaw first namespace given ≡ None
        → Says source total (applies_to_pieces first namespace level given) (AppliesOf given)
    applies_say level None sayable flawless =
        says_so source total [] nothing (AppliesOf None) (λ ts rest is. (None, is, refl, omega arith, refl)) (says_nothing source total)
    applies_say level (Some it) sayable flawless =
        let parts = parts_pieces first namespace (suc level) it in
        let ending = line level ∷ sign (codes "}") ∷ [] in
        let braced = sign (codes "{") ∷ (parts ++ ending) in
        let form = mark mark_of.OpenBrace then PartsOf it then mark mark_of.CloseBrace in
        let close = says_line source total level (sign (codes "}") ∷ []) (mark mark_of.CloseBrace)
        (says_last source total (sign (codes "}") ∷ []) (mark mark_of.CloseBrace) (says_close_brace source total [] nothing (says_nothing source total))) in
        says_blank source total (word (codes "appliesTo") ∷ blank ∷ braced) (AppliesOf (Some it))
        (says_so source total (word (codes "appliesTo") ∷ blank ∷ braced) (word_form (codes "appliesTo") then form) (AppliesOf (Some it))
        (λ ts rest is.
        let loc = between ts rest in
        let reads = is.2.2.1.2 loc in (
          Some (record { parts = is.2.2.1.0; loc = loc }),
          ((is.0, is.1, (is.2.0, is.2.1, (is.2.2.0, is.2.2.1.1, is.2.2.2))), refl),
          ap Some reads.said,
          reads.few,
          reads.faultless,
        ))
        (says_word source total (codes "appliesTo") (blank ∷ braced) form refl (λ all ended. refl) (says_blank source total braced form
        (says_open_brace source total (parts ++ ending) (PartsOf it then mark mark_of.CloseBrace)
        (says_then source total parts ending (PartsOf it) (mark mark_of.CloseBrace) (parts_say (suc level) it sayable flawless) (λ all ended. refl) close)))))

    applies_open : (level : ℕ) (given : Option (ApplySpec RawName)) → Opens (applies_to_pieces first namespace level given)
    applies_open level None = Opens-none
    applies_open level (Some it) = λ all ended. refl

    -- ---- actions

    action_read : (id : Text) (it : ActionType RawName) → it.attributes ≡ None → (ts rest : List Token)
        → (IsExternal it.external then word_form (codes "action") then NameOf id then MembersOf it.member_of then AppliesOf it.applies_to
        then mark mark_of.Semicolon) ts rest
        → ActionOf first namespace id it ts rest
    action_read id it none ts rest (
      a,
      external,
      (
        b,
        keyword,
        (
          c,
          (x, is_name, same),
          (
            d,
            (ps, are_ps, ps_said, ps_clean),
            (e, (applies, are, applies_said, few, clean), end),
          ),
        ),
      ),
    ) =
        let loc = between ts rest in (
          record { annotations = []; item = action it.external (x ∷ []) ps applies; loc = loc },
          (ts, refl, ((e, (a, external, (b, keyword, (c, is_name, (d, are_ps, (e, are, inr refl))))), end), refl)),
          record {
            meant = record { name = x; external = it.external; parents = ps; applies = applies; loc = loc };
            actions = refl;
            entities = refl;
            commons = refl;
            said = λ i. (
              same i,
              record {
                attributes = sym (ap (option_map written_pairs) none) i;
                applies_to = applies_said i;
                member_of = ps_said i;
                external = it.external;
              },
            );
            faultless = ap₂ (λ xs ys. xs ++ ys) ps_clean clean;
            few = few;
            noted = refl;
          },
        )

    pub action_says : (level : ℕ) (id : String Global) (it : ActionType RawName) → SayableRequests it.applies_to → action_flaw first namespace it ≡ None
        → Says source total (action_pieces first namespace level id it) (ActionOf first namespace (string_bytes id) it)
    action_says level id it sayable flawless =
        let parts = cond_none (is_some it.attributes) (record { what = what.Attributes; part = part.Attributes }) (applies_to_flaw first namespace it.applies_to) flawless in
        let members = member_of_pieces it.member_of in
        let applies = applies_to_pieces first namespace level it.applies_to in
        let behind = members ++ (applies ++ sign (codes ";") ∷ []) in
        let named = name_piece (string_bytes id) ∷ behind in
        let requests_form = AppliesOf it.applies_to then mark mark_of.Semicolon in
        let behind_form = MembersOf it.member_of then requests_form in
        let form = NameOf (string_bytes id) then behind_form in
        let ended = Opens-append applies (sign (codes ";") ∷ []) (applies_open level it.applies_to) (λ all ended. refl) in
        says_so source total (action_pieces first namespace level id it) (IsExternal it.external then word_form (codes "action") then form)
        (ActionOf first namespace (string_bytes id) it) (action_read (string_bytes id) it (none_there it.attributes parts.0))
        (external_says source total it.external (word (codes "action") ∷ blank ∷ named) (word_form (codes "action") then form)
        (says_word source total (codes "action") (blank ∷ named) form refl (λ all ended. refl) (says_blank source total named form
        (name_says source total (string_bytes id) behind behind_form (IsUtf8-string_bytes id)
        (Opens-append members (applies ++ sign (codes ";") ∷ []) (members_open it.member_of) ended)
        (says_then source total members (applies ++ sign (codes ";") ∷ []) (MembersOf it.member_of) requests_form (members_say it.member_of) ended
        (says_then source total applies (sign (codes ";") ∷ []) (AppliesOf it.applies_to) (mark mark_of.Semicolon) (applies_say level it.applies_to sayable parts.1)
        (λ all ended. refl) (semicolon_says source total)))))))
