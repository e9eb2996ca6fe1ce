-- Declarations of common types as they are written, and those that are read of them.
use Rattle.std.proofs.Common.{◌≡◌, ℕ, ◌≤◌, List, [], ◌∷◌, ◌++◌, Option, None, codes, refl, sym, ap, ap₂, subst}
use Rattle.cedar_ast.specs.Words.{PlainName, Text}
use Rattle.cedar_json.proofs.NameLemmas.{is_unreserved-id}
use Rattle.cedar_schema_ast.specs.Words.{Expr, common_type_text, raw_expr}
use Rattle.cedar_schema_ast.specs.declared.json_schema.common_type_id.CommonTypeId.{CommonTypeId}
use Rattle.cedar_schema_ast.specs.declared.json_schema.fragment.CommonType.{CommonType}
use Rattle.cedar_schema_ast.specs.declared.json_schema.raw_name.RawName.{RawName}
use Rattle.cedar_schema_grammar.specs.Grammar.{Form, IsDeclaration, between, mark, ◌then◌}
use Rattle.cedar_schema_grammar.specs.Grammar.{word as word_form}
use Rattle.cedar_schema_grammar.specs.Tree.{Declaration, Name, common, level_of_declaration}
use Rattle.cedar_schema_text.proofs.NameLemmas.{common_some}
use Rattle.cedar_schema_text.specs.Faults.{common_faults, noted_faults, reserved, unless}
use Rattle.cedar_schema_text.specs.Meaning.{actions_of, common_meant, commons_of, entities_of}
use Rattle.cedar_schema_text.specs.Meaning.{Common as MeantCommon}
use Rattle.cedar_schema_text_laws.proofs.EntityTexts.{semicolon_says}
use Rattle.cedar_schema_text_laws.proofs.PathTexts.{id_of_identifier}
use Rattle.cedar_schema_text_laws.proofs.Said.{type_said}
use Rattle.cedar_schema_text_laws.proofs.Tokens.{Says, says_blank, says_equals, says_so, says_then, says_word}
use Rattle.cedar_schema_text_laws.proofs.TypeTexts.{TypeOf, nest, type_says}
use Rattle.cedar_schema_text_laws.proofs.WritableTypes.{said_pieces, said_type}
use Rattle.cedar_schema_text_laws.specs.Sayable.{Sayable}
use Rattle.cedar_schema_text_laws.specs.TextForm.{type_form}
use Rattle.cedar_schema_text_writer.specs.Flaws.{common_type_flaw}
use Rattle.cedar_schema_text_writer.specs.Layout.{common_pieces, written_pieces}
use Rattle.cedar_schema_text_writer.specs.Names.{First}
use Rattle.cedar_schema_text_writer.specs.Pieces.{Piece, blank, sign, word}
use Rattle.cedar_schema_text_writer.specs.declared.fault.Part.TheVariants as part
use Rattle.cedar_schema_tokens.specs.Token.{Token}
use Rattle.cedar_schema_tokens.specs.declared.token.Symbol.TheVariants as mark_of

-- a declaration that declares one common type and nothing else
pub record DeclaresCommon (given : Text × Expr) (d : Declaration) : Type 0 where
  pub meant : MeantCommon
  pub commons : commons_of d.item ≡ meant ∷ []
  pub entities : entities_of d.item ≡ []
  pub actions : actions_of d.loc d.item ≡ []
  pub said : ((common_meant meant).0, type_said (common_meant meant).1.ty) ≡ given
  pub faultless : common_faults meant ≡ []
  pub few : level_of_declaration d ≤ 128
  pub noted : noted_faults d ≡ []

module _ (first : First) (namespace : Option PlainName) where
  -- the declaration of a common type under an id
  abbrev pub CommonOf : CommonTypeId → CommonType RawName → Form
  CommonOf id it ts rest =
      (d : Declaration) × IsDeclaration d ts rest × DeclaresCommon (common_type_text id, type_form first namespace (raw_expr None it.ty)) d

  common_read : (id : CommonTypeId) (it : CommonType RawName) → nest (raw_expr None it.ty) ≤ 128 → (ts rest : List Token)
      → (word_form (codes "type") then word_form (common_type_text id) then mark mark_of.Equals
      then TypeOf (type_form first namespace (raw_expr None it.ty)) (nest (raw_expr None it.ty)) then mark mark_of.Semicolon) ts rest
      → CommonOf id it ts rest
  common_read id it few ts rest (a, keyword, (b, (loc, is_word), (c, equals, (d, (ty, is_type, said, high, clean), end)))) =
      let x : Name = record { text = common_type_text id; loc = loc } in (
        record { annotations = []; item = common x ty; loc = between ts rest },
        (ts, refl, ((d, (a, keyword, (b, is_word, (c, equals, is_type))), end), refl)),
        record {
          meant = record { name = x; of = ty };
          commons = refl;
          entities = refl;
          actions = refl;
          said = λ i. (common_type_text id, said i);
          faultless = ap₂ (λ xs ys. xs ++ ys)
              (ap (λ test. unless test (reserved loc)) (common_some (common_type_text id) (is_unreserved-id id.id) id.common)) clean;
          few = subst (λ n. n ≤ 128) (sym high) few;
          noted = refl;
        },
      )

module _ (source total : ℕ) (first : First) (namespace : Option PlainName) where
  pub common_says : (level : ℕ) (id : CommonTypeId) (it : CommonType RawName) → Sayable (raw_expr None it.ty) → common_type_flaw first namespace it ≡ None
      → Says source total (common_pieces first namespace level id it) (CommonOf first namespace id it)
  common_says level id it sayable flawless =
      let e = raw_expr None it.ty in
      let is = said_type first namespace part.Definition it.ty sayable flawless in
      let typed = TypeOf (type_form first namespace e) (nest e) in
      let written = written_pieces first namespace level it.ty in
      let says : Says source total written typed =
      subst (λ (pieces : List Piece). Says source total pieces typed) (said_pieces first namespace level it.ty)
      (type_says source total first namespace part.Definition level e is.sayable is.flawless) in
      let behind = written ++ sign (codes ";") ∷ [] in
      let equal = sign (codes "=") ∷ blank ∷ behind in
      let form = typed then mark mark_of.Semicolon in
      says_so source total (common_pieces first namespace level id it) (word_form (codes "type") then word_form (common_type_text id) then mark mark_of.Equals then form)
      (CommonOf first namespace id it) (common_read first namespace id it is.few)
      (says_word source total (codes "type") (blank ∷ word (common_type_text id) ∷ blank ∷ equal) (word_form (common_type_text id) then mark mark_of.Equals then form)
      refl (λ all ended. refl) (says_blank source total (word (common_type_text id) ∷ blank ∷ equal) (word_form (common_type_text id) then mark mark_of.Equals then form)
      (says_word source total (common_type_text id) (blank ∷ equal) (mark mark_of.Equals then form)
      (id_of_identifier (common_type_text id) id.id.id.identifier) (λ all ended. refl) (says_blank source total equal (mark mark_of.Equals then form)
      (says_equals source total (blank ∷ behind) form (says_blank source total behind form
      (says_then source total written (sign (codes ";") ∷ []) typed (mark mark_of.Semicolon) says (λ all ended. refl) (semicolon_says source total))))))))
