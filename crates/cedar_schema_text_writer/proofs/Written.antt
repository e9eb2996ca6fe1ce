-- Pieces that are written one after another.
use Rattle.std.proofs.Common.{◌≡◌, ℕ, suc, Bool, true, false, cond, List, [], ◌∷◌, ◌++◌, Option, Result, OnOk, codes, string_bytes, refl, ap, sym, subst, ◌∙◌, append_assoc, append-nil, arith, length}
use Rattle.std.proofs.lemmas.Grind.{flat_map-append}
use Rattle.std.specs.declared.alloc.Global.{Global}
use Rattle.std.specs.declared.string.String.{String}
use Rattle.cedar_ast.specs.Words.{PlainName, Text}
use Rattle.cedar_schema_ast.proofs.ExprLemmas.{raw_attribute-parts, raw_record-entries}
use Rattle.cedar_schema_ast.specs.PlainMembers.{plain_members}
use Rattle.cedar_schema_ast.specs.Words.{Expr, members_from, raw_attribute, raw_expr, raw_record, raw_variant, record_expr, set_expr}
use Rattle.cedar_schema_ast.specs.declared.json_schema.raw_name.RawName.{RawName}
use Rattle.cedar_schema_ast.specs.declared.json_schema.type_of.RecordType.{RecordType, out-RecordType}
use Rattle.cedar_schema_ast.specs.declared.json_schema.type_of.TypeOfAttribute.{TypeOfAttribute, out-TypeOfAttribute}
use Rattle.cedar_schema_ast.specs.declared.json_schema.type_of.TypeVariant.{TypeVariant}
use Rattle.cedar_schema_text_writer.specs.Names.{First, is_none}
use Rattle.cedar_schema_text_writer.specs.Pieces.{Adds, Piece, blank, line, sign, spelled, text_of, word}
use Rattle.cedar_schema_text_writer.specs.TypeLayout.{attribute_pieces, close_pieces, is_empty_record, members_pieces, name_piece, presence_pieces, type_pieces}

-- pieces behind others
pub adds_more : (old mid new : String Global) (a b : List Piece) → Adds old mid a → Adds mid new b → Adds old new (a ++ b)
adds_more old mid new a b one two =
    two ∙ ap (λ (t : Text). t ++ text_of b) one ∙ append_assoc (string_bytes old) (text_of a) (text_of b)
    ∙ ap (λ (t : Text). string_bytes old ++ t) (sym (flat_map-append spelled a b))

-- what is left out where a test says so
pub left_out : (old : String Global) (test : Bool) (pieces : List Piece) → test ≡ true → Adds old old (cond test [] pieces)
left_out old test pieces is =
    subst (λ (b : Bool). Adds old old (cond b [] pieces)) (sym is) (sym (append-nil (string_bytes old)))

-- and written where it doesn't
pub written_in : (old new : String Global) (test : Bool) (pieces : List Piece) → test ≡ false → Adds old new pieces → Adds old new (cond test [] pieces)
written_in old new test pieces is added = subst (λ (b : Bool). Adds old new (cond b [] pieces)) (sym is) added

-- some of the pieces are written, and others are left
abbrev pub Leaves : String Global → String Global → List Piece → List Piece → Type 0
Leaves old now all left = string_bytes now ++ text_of left ≡ string_bytes old ++ text_of all

-- one thing more is written
pub leaves_less : (old now next : String Global) (all left rest one : List Piece) → left ≡ one ++ rest → Adds now next one → Leaves old now all left
    → Leaves old next all rest
leaves_less old now next all left rest one parts added so_far =
    ap (λ (t : Text). t ++ text_of rest) added ∙ append_assoc (string_bytes now) (text_of one) (text_of rest)
    ∙ ap (λ (t : Text). string_bytes now ++ t) (sym (ap text_of parts ∙ flat_map-append spelled one rest)) ∙ so_far

-- all is written where none is left
pub leaves_none : (old now : String Global) (all left : List Piece) → left ≡ [] → Leaves old now all left → Adds old now all
leaves_none old now all left none so_far =
    sym (append-nil (string_bytes now)) ∙ ap (λ (ps : List Piece). string_bytes now ++ text_of ps) (sym none) ∙ so_far

-- all is what is written of nothing
pub leaves_whole : (old now : String Global) (all left : List Piece) → string_bytes old ≡ [] → left ≡ [] → Leaves old now all left
    → string_bytes now ≡ text_of all
leaves_whole old now all left empty none so_far = leaves_none old now all left none so_far ∙ ap (λ (t : Text). t ++ text_of all) empty

-- attributes by name
abbrev pub Entries : Type 0
Entries = List (String Global × TypeOfAttribute RawName)

module _ (first : First) (namespace : Option PlainName) (level : ℕ) where
  -- the pieces of some attributes
  abbrev pub entries_pieces : Entries → List Piece
  entries_pieces entries = members_pieces first namespace level (members_from (plain_members namespace entries))

  -- those of an attribute with its name
  abbrev pub entry_pieces : String Global → TypeOfAttribute RawName → List Piece
  entry_pieces name attribute =
      line level ∷ name_piece (string_bytes name) ∷ attribute_pieces first namespace level (raw_attribute namespace attribute)

  -- an attribute stands before the others
  pub entries_more : (name : String Global) (attribute : TypeOfAttribute RawName) (left rest : Entries) → left ≡ (name, attribute) ∷ rest
      → entries_pieces left ≡ entry_pieces name attribute ++ entries_pieces rest
  entries_more name attribute left rest is =
      let it : Bool × Expr = raw_attribute namespace attribute in
      let inner : List Piece = type_pieces first namespace level it.1 in
      let more : List Piece = entries_pieces rest in
      ap entries_pieces is
      ∙ ap (λ (ps : List Piece). line level ∷ name_piece (string_bytes name) ∷ (presence_pieces it.0 ++ (sign (codes ":") ∷ blank ∷ ps)))
      (sym (append_assoc inner (sign (codes ",") ∷ []) more))
      ∙ ap (λ (ps : List Piece). line level ∷ name_piece (string_bytes name) ∷ ps)
      (sym (append_assoc (presence_pieces it.0) (sign (codes ":") ∷ blank ∷ (inner ++ sign (codes ",") ∷ [])) more))

-- the bracket that closes attributes, by whether there are none
pub closed : (namespace : Option PlainName) (level : ℕ) (entries : Entries) (none : Bool) → none ≡ is_none entries
    → cond none [] (line level ∷ []) ++ sign (codes "}") ∷ [] ≡ close_pieces level (members_from (plain_members namespace entries))
closed namespace level [] none is = ap (λ (b : Bool). cond b [] (line level ∷ []) ++ sign (codes "}") ∷ []) is
closed namespace level (e ∷ es) none is = ap (λ (b : Bool). cond b [] (line level ∷ []) ++ sign (codes "}") ∷ []) is

-- a test tells whether a list has no items
pub none_by : {A : Type 0} (none : Bool) (xs : List A) → (none ≡ true → length xs ≡ 0) → (length xs ≡ 0 → none ≡ true) → none ≡ is_none xs
none_by true [] is was = refl
none_by false [] is was = was refl
none_by true (x ∷ xs) is was = absurd (omega (arith, is refl))
none_by false (x ∷ xs) is was = refl

-- a record is empty where it has no entries
pub empty_by : (namespace : Option PlainName) (entries : Entries) (additional : Bool)
    → is_empty_record (record_expr (members_from (plain_members namespace entries)) additional) ≡ is_none entries
empty_by namespace [] additional = refl
empty_by namespace (e ∷ es) additional = refl

-- a record between its brackets
pub record_written : (first : First) (namespace : Option PlainName) (level inner : ℕ) (old opened inside new : String Global) (it : RecordType RawName)
    (left : Entries) (none : Bool) → Adds old opened (sign (codes "{") ∷ []) → inner ≡ suc level → left ≡ []
    → Leaves opened inside (entries_pieces first namespace inner (out-RecordType RawName it).attributes.entries) (entries_pieces first namespace inner left)
    → none ≡ is_none (out-RecordType RawName it).attributes.entries → Adds inside new (cond none [] (line level ∷ []) ++ sign (codes "}") ∷ [])
    → Adds old new (type_pieces first namespace level (raw_record namespace it))
record_written first namespace level inner old opened inside new it left none begun deeper nothing so_far is closing =
    let entries : Entries = (out-RecordType RawName it).attributes.entries in
    let all : List Piece = entries_pieces first namespace inner entries in
    let close : List Piece = cond none [] (line level ∷ []) ++ sign (codes "}") ∷ [] in
    let written : Adds opened inside all = leaves_none opened inside all (entries_pieces first namespace inner left) (ap (entries_pieces first namespace inner) nothing) so_far in
    let whole : Adds old new (sign (codes "{") ∷ (all ++ close)) = adds_more old opened new (sign (codes "{") ∷ []) (all ++ close) begun (adds_more opened inside new all close written closing) in
    let same : sign (codes "{") ∷ (all ++ close) ≡ type_pieces first namespace level (raw_record namespace it) =
    ap (λ (n : ℕ). sign (codes "{") ∷ (entries_pieces first namespace n entries ++ close)) deeper
    ∙ ap (λ (ps : List Piece). sign (codes "{") ∷ (entries_pieces first namespace (suc level) entries ++ ps)) (closed namespace level entries none is)
    ∙ sym (ap (type_pieces first namespace level) (raw_record-entries namespace it)) in
    subst (λ (ps : List Piece). Adds old new ps) same whole

-- an attribute behind its name
pub attribute_written : (first : First) (namespace : Option PlainName) (level : ℕ) (old marked named typed new : String Global) (it : TypeOfAttribute RawName)
    → Adds old marked (presence_pieces (out-TypeOfAttribute RawName it).required) → Adds marked named (sign (codes ":") ∷ blank ∷ [])
    → Adds named typed (type_pieces first namespace level (raw_expr namespace (out-TypeOfAttribute RawName it).ty))
    → Adds typed new (sign (codes ",") ∷ []) → Adds old new (attribute_pieces first namespace level (raw_attribute namespace it))
attribute_written first namespace level old marked named typed new it one two three four =
    let presence : List Piece = presence_pieces (out-TypeOfAttribute RawName it).required in
    let ty : List Piece = type_pieces first namespace level (raw_expr namespace (out-TypeOfAttribute RawName it).ty) in
    let comma : List Piece = sign (codes ",") ∷ [] in
    subst (λ (parts : Bool × Expr). Adds old new (attribute_pieces first namespace level parts)) (sym (raw_attribute-parts namespace it))
    (adds_more old marked new presence (sign (codes ":") ∷ blank ∷ (ty ++ comma)) one
    (adds_more marked named new (sign (codes ":") ∷ blank ∷ []) (ty ++ comma) two
    (adds_more named typed new ty comma three four)))

-- a set between its brackets
pub set_written : (first : First) (namespace : Option PlainName) (level : ℕ) (old opened typed new : String Global) (element : Expr)
    → Adds old opened (word (codes "Set") ∷ sign (codes "<") ∷ []) → Adds opened typed (type_pieces first namespace level element)
    → Adds typed new (sign (codes ">") ∷ []) → Adds old new (type_pieces first namespace level (set_expr element))
set_written first namespace level old opened typed new element one two three =
    let ty : List Piece = type_pieces first namespace level element in
    adds_more old opened new (word (codes "Set") ∷ sign (codes "<") ∷ []) (ty ++ sign (codes ">") ∷ []) one
    (adds_more opened typed new ty (sign (codes ">") ∷ []) two three)

-- a type variant, where what it stands for was written
pub variant_written : {E : Type 0} (first : First) (namespace : Option PlainName) (level : ℕ) (old new : String Global) (result : Result (Unit {0}) E)
    (ty variant : TypeVariant RawName) (stands_for : Expr) → ty ≡ variant → raw_variant namespace variant ≡ stands_for
    → OnOk result (Adds old new (type_pieces first namespace level stands_for))
    → OnOk result (Adds old new (type_pieces first namespace level (raw_variant namespace ty)))
variant_written first namespace level old new result ty variant stands_for is stands written =
    subst (λ (it : Expr). OnOk result (Adds old new (type_pieces first namespace level it))) (sym (ap (raw_variant namespace) is ∙ stands)) written
