-- Names in the members of a text.
use Rattle.std.proofs.Common.{◌≡◌, ◌≢◌, ℕ, Bool, true, false, ◌&&◌, List, [], ◌∷◌, Option, None, Some, codes, length, refl, ap, subst, ◌∙◌, inl, inr, arith}
use Rattle.std.proofs.lemmas.Bool.{and_parts}
use Rattle.std.proofs.lemmas.Bool.Decides.{nat_tests}
use Rattle.std.specs.Bool.{⊤}
use Rattle.std.specs.List.{AllByRecursion, list_all}
use Rattle.cedar_ast.specs.Words.{Text, is_identifier_byte, is_identifier_text}
use Rattle.cedar_ast.specs.declared.loc.Loc.{Loc}
use Rattle.cedar_schema_grammar.specs.Grammar.{AreAnnotations, AreAttributes, AreMore, AreParents, ArePaths, AreTags, Form, IsAnnotation, IsApplies, IsBelow, IsBody, IsContext, IsDeclaration, IsExternal, IsId, IsIn, IsItem, IsMember, IsName, IsParent, IsPart, IsPath, IsPresence, IsRecord, IsReference, IsShape, IsText, IsType, SaysSo, any, any_text, many, mark, no_values, none_of, nothing, only, optional, separated, some, token, ◌or◌, ◌then◌}
use Rattle.cedar_schema_grammar.specs.Grammar.{word as word_form}
use Rattle.cedar_schema_grammar.specs.Tree.{Applies, Attributes, Body, Declaration, Item, Member, Name, Parent, Part, Path, Says, Ty, action, alone, attribute, choices, common, context, entity, named, namespace, no_attributes, principals, record_of, resources, set_of, standard}
use Rattle.cedar_schema_text.specs.Faults.{is_name}
use Rattle.cedar_schema_text.specs.TextFormat.{HasMembers}
use Rattle.cedar_schema_text_laws.specs.TextNames.{AppliesHasNames, BodyHasNames, DeclarationHasNames, HasNames, HaveNames, IfThere, IsIdName, IsNamePath, ItemHasNames, MemberHasNames, ParentHasNames, SaysNames}
use Rattle.cedar_schema_tokens.specs.Lexical.{after_gap, is_start, is_word}
use Rattle.cedar_schema_tokens.specs.Token.{Lexeme, Token, ident, symbol, text}
use Rattle.cedar_schema_tokens.specs.Written.{Begin, IsWritten, is_id}
use Rattle.cedar_schema_tokens.specs.declared.token.Symbol.{Symbol}
use Rattle.cedar_schema_tokens.specs.declared.token.Symbol.TheVariants as mark_of

-- ---- tokens

-- an id is an identifier
abbrev IsSound : Lexeme → Type 0
IsSound (ident w) = is_identifier_text w ≡ true
IsSound (text s) = ⊤
IsSound (symbol m) = ⊤

abbrev Words : List Token → Type 0
Words ts = AllByRecursion (λ t. IsSound t.lexeme) ts

bytes_of : (w : Text) → list_all is_word w ≡ true → list_all is_identifier_byte w ≡ true
bytes_of [] all = refl
bytes_of (b ∷ bs) all =
    let parts = and_parts (is_word b) (list_all is_word bs) all in
    ap (λ test. test && list_all is_identifier_byte bs) (here parts.0) ∙ bytes_of bs parts.1
  where
    here : is_word b ≡ true → is_identifier_byte b ≡ true
    here is = grind (arith, nat_tests)

identifier_of : (w : Text) → is_id w ≡ true → is_identifier_text w ≡ true
identifier_of [] is = is
identifier_of (b ∷ bs) is =
    let parts = and_parts (is_start b) (list_all is_word bs) is in
    let byte : is_identifier_byte b ≡ true = starts parts.0 in
    ap (λ test. test && list_all is_identifier_byte (b ∷ bs)) parts.0 ∙ (ap (λ test. test && list_all is_identifier_byte bs) byte ∙ bytes_of bs parts.1)
  where
    starts : is_start b ≡ true → is_identifier_byte b ≡ true
    starts is = grind (arith, nat_tests)

-- the ids of a text are identifiers
words_of : (source total : ℕ) (ts : List Token) (all rest : List ℕ) → Begin source total ts all rest → Words ts
words_of source total [] all rest begin = tt
words_of source total (t ∷ ts) all rest begin = (by t.lexeme begin.1, words_of source total ts begin.0 rest begin.3) where
  by : (it : Lexeme) → IsWritten it (after_gap all) begin.0 → IsSound it
  by (ident w) is = identifier_of w is.0
  by (text s) is = tt
  by (symbol m) is = tt

-- ---- forms leave such tokens

-- behind a form there are such tokens where there were before it
abbrev Leaves : Form → Type 0
Leaves form = (ts rest : List Token) → form ts rest → Words ts → Words rest

-- and it says what holds
abbrev Gives : Form → Type 0 → Type 0
Gives form Holds = (ts rest : List Token) → form ts rest → Words ts → Holds × Words rest

token_gives : (lexeme : Lexeme) → Gives (token lexeme) (IsSound lexeme)
token_gives lexeme ts rest is words = subst Words is.1 words

token_at_gives : (x : Name) → Gives (IsId x) (IsIdName x)
token_at_gives x ts rest is words = subst Words is words

leaves_token : (lexeme : Lexeme) → Leaves (token lexeme)
leaves_token lexeme ts rest is words = (token_gives lexeme ts rest is words).1

leaves_name : (x : Name) → Leaves (IsName x)
leaves_name x ts rest (inl is) words = (subst Words is words).1
leaves_name x ts rest (inr is) words = (subst Words is words).1

leaves_nothing : Leaves nothing
leaves_nothing ts rest is words = subst Words is words

leaves_then : (p q : Form) → Leaves p → Leaves q → Leaves (p then q)
leaves_then p q one other ts rest is words = other is.0 rest is.2 (one ts is.0 is.1 words)

leaves_optional : (p : Form) → Leaves p → Leaves (optional p)
leaves_optional p one ts rest (inl is) words = one ts rest is words
leaves_optional p one ts rest (inr is) words = leaves_nothing ts rest is words

module _ {A : Type 0} (form : A → Form) (Holds : A → Type 0) (each : (a : A) → Gives (form a) (Holds a)) where
  separated_gives : (m : Symbol) (all : List A) → Gives (separated m form all) (AllByRecursion Holds all)
  separated_gives m [] ts rest is words = absurd is
  separated_gives m (a ∷ []) ts rest is words = let here = each a ts rest is words in ((here.0, tt), here.1)
  separated_gives m (a ∷ b ∷ more) ts rest is words =
      let here = each a ts is.0 is.1 words in
      let behind = separated_gives m (b ∷ more) is.2.0 rest is.2.2 (leaves_token (symbol m) is.0 is.2.0 is.2.1 here.1) in
      ((here.0, behind.0), behind.1)

  some_gives : (all : List A) → Gives (some form all) (AllByRecursion Holds all)
  some_gives all ts rest is words =
      let here = separated_gives mark_of.Comma all ts is.0 is.1 words in
      (here.0, leaves_optional (mark mark_of.Comma) (leaves_token (symbol mark_of.Comma)) is.0 rest is.2 here.1)

  any_gives : (all : List A) → Gives (any form all) (AllByRecursion Holds all)
  any_gives [] ts rest is words = (tt, leaves_nothing ts rest is words)
  any_gives (a ∷ more) ts rest is words = some_gives (a ∷ more) ts rest is words

  many_gives : (all : List A) → Gives (many form all) (AllByRecursion Holds all)
  many_gives [] ts rest is words = (tt, leaves_nothing ts rest is words)
  many_gives (a ∷ more) ts rest is words =
      let here = each a ts is.0 is.1 words in
      let behind = many_gives more is.0 rest is.2 here.1 in
      ((here.0, behind.0), behind.1)

  only_gives : (all : List A) → Gives (only form all) (AllByRecursion Holds all)
  only_gives [] ts rest is words = absurd is
  only_gives (a ∷ []) ts rest is words = let here = each a ts rest is words in ((here.0, tt), here.1)
  only_gives (a ∷ b ∷ more) ts rest is words = absurd is

  -- one, or any between brackets
  bracketed_gives : (all : List A) → Gives (only form all or mark mark_of.OpenBracket then any form all then mark mark_of.CloseBracket) (AllByRecursion Holds all)
  bracketed_gives all ts rest (inl is) words = only_gives all ts rest is words
  bracketed_gives all ts rest (inr is) words =
      let here = any_gives all is.0 is.2.0 is.2.1 (leaves_token (symbol mark_of.OpenBracket) ts is.0 is.1 words) in
      (here.0, leaves_token (symbol mark_of.CloseBracket) is.2.0 rest is.2.2 here.1)

many_leaves : {A : Type 0} (form : A → Form) → ((a : A) → Leaves (form a)) → (all : List A) → Leaves (many form all)
many_leaves form each [] = leaves_nothing
many_leaves form each (a ∷ all) = leaves_then (form a) (many form all) (each a) (many_leaves form each all)

-- ---- paths and annotations

all_identifiers : (ids : List Text) → AllByRecursion (λ w. is_identifier_text w ≡ true) ids → list_all is_identifier_text ids ≡ true
all_identifiers [] all = refl
all_identifiers (w ∷ ids) all = ap (λ test. test && list_all is_identifier_text ids) all.0 ∙ all_identifiers ids all.1

path_gives : (p : Path) → Gives (IsPath p) (IsNamePath p)
path_gives p ts rest is words =
    let here = separated_gives word_form (λ w. is_identifier_text w ≡ true) (λ w. token_gives (ident w)) mark_of.PathSeparator p.ids ts rest is.0 words in
    (by p.ids is.0 here.0, here.1)
  where
    by : (ids : List Text) → separated mark_of.PathSeparator word_form ids ts rest → AllByRecursion (λ w. is_identifier_text w ≡ true) ids → is_name ids ≡ true
    by [] none all = absurd none
    by (w ∷ ids) some all = all_identifiers (w ∷ ids) all

leaves_annotation : (x : Name) → Leaves (IsAnnotation x)
leaves_annotation x =
    leaves_then (mark mark_of.At) (IsId x then optional (mark mark_of.OpenParenthesis then any_text then mark mark_of.CloseParenthesis))
    (leaves_token (symbol mark_of.At))
    (leaves_then (IsId x) (optional (mark mark_of.OpenParenthesis then any_text then mark mark_of.CloseParenthesis)) (λ ts rest is words. (subst Words is words).1)
    (leaves_optional (mark mark_of.OpenParenthesis then any_text then mark mark_of.CloseParenthesis)
    (leaves_then (mark mark_of.OpenParenthesis) (any_text then mark mark_of.CloseParenthesis) (leaves_token (symbol mark_of.OpenParenthesis))
    (leaves_then any_text (mark mark_of.CloseParenthesis) (λ ts rest is words. leaves_token (text is.0) ts rest is.1 words) (leaves_token (symbol mark_of.CloseParenthesis))))))

leaves_annotations : (all : List Name) → Leaves (AreAnnotations all)
leaves_annotations = many_leaves IsAnnotation leaves_annotation

leaves_presence : (required : Bool) → Leaves (IsPresence required)
leaves_presence true = leaves_nothing
leaves_presence false = leaves_token (symbol mark_of.Question)

-- ---- types

mutual
  unfolding IsType

  type_gives : (ty : Ty) → Gives (IsType ty) (HasNames ty)
  type_gives (named path) ts rest is words = path_gives path ts rest is words
  type_gives (set_of element) ts rest is words =
      let opened = leaves_token (symbol mark_of.Less) is.0 is.2.0 is.2.1 (leaves_token (ident _) ts is.0 is.1 words) in
      let here = type_gives element is.2.0 is.2.2.0 is.2.2.1 opened in
      (here.0, leaves_token (symbol mark_of.Greater) is.2.2.0 rest is.2.2.2 here.1)
  type_gives (record_of all loc) ts rest is words =
      let here = attributes_give all is.0.0 is.0.2.0 is.0.2.1 (leaves_token (symbol mark_of.OpenBrace) ts is.0.0 is.0.1 words) in
      (here.0, leaves_token (symbol mark_of.CloseBrace) is.0.2.0 rest is.0.2.2 here.1)

  attributes_give : (all : Attributes) → Gives (AreAttributes all) (HaveNames all)
  attributes_give no_attributes ts rest is words = (tt, leaves_nothing ts rest is words)
  attributes_give (attribute annotations name is_required ty more) ts rest (a, notes, (b, named_so, (c, presence, (d, colon, (e, is_type, others))))) words =
      let before = leaves_token (symbol mark_of.Colon) c d colon (leaves_presence is_required b c presence (leaves_name name a b named_so (leaves_annotations annotations ts a notes words))) in
      let here = type_gives ty d e is_type before in
      let behind = more_give more e rest others here.1 in
      ((here.0, behind.0), behind.1)

  more_give : (all : Attributes) → Gives (AreMore all) (HaveNames all)
  more_give no_attributes ts rest is words = (tt, leaves_optional (mark mark_of.Comma) (leaves_token (symbol mark_of.Comma)) ts rest is words)
  more_give (attribute annotations name is_required ty more) ts rest (z, comma, (a, notes, (b, named_so, (c, presence, (d, colon, (e, is_type, others)))))) words =
      let start = leaves_token (symbol mark_of.Comma) ts z comma words in
      let before = leaves_token (symbol mark_of.Colon) c d colon (leaves_presence is_required b c presence (leaves_name name a b named_so (leaves_annotations annotations z a notes start))) in
      let here = type_gives ty d e is_type before in
      let behind = more_give more e rest others here.1 in
      ((here.0, behind.0), behind.1)

record_gives : (ty : Ty) → Gives (IsRecord ty) (HasNames ty)
record_gives (named path) ts rest is words = absurd is
record_gives (set_of element) ts rest is words = absurd is
record_gives (record_of all loc) ts rest is words = type_gives (record_of all loc) ts rest is words

context_gives : (ty : Ty) → Gives (IsContext ty) (HasNames ty)
context_gives (named path) ts rest is words = path_gives path ts rest is words
context_gives (set_of element) ts rest is words = absurd is
context_gives (record_of all loc) ts rest is words = type_gives (record_of all loc) ts rest is words

-- ---- entity types

text_gives : (x : Name) → Gives (IsText x) ⊤
text_gives x ts rest is words = subst Words is words

paths_give : (all : List Path) → Gives (ArePaths all) (AllByRecursion IsNamePath all)
paths_give = bracketed_gives IsPath IsNamePath path_gives

nothing_below : (all : List Path) → Gives (none_of all) (AllByRecursion IsNamePath all)
nothing_below [] ts rest is words = (tt, leaves_nothing ts rest is words)
nothing_below (p ∷ all) ts rest is words = absurd is

below_gives : (all : List Path) → Gives (IsBelow all) (AllByRecursion IsNamePath all)
below_gives all ts rest (inl is) words = paths_give all is.0 rest is.2 (leaves_token (ident _) ts is.0 is.1 words)
below_gives all ts rest (inr is) words = nothing_below all ts rest is words

shape_gives : (shape : Option Ty) → Gives (IsShape shape) (IfThere HasNames shape)
shape_gives None ts rest is words = (tt, leaves_nothing ts rest is words)
shape_gives (Some ty) ts rest is words =
    record_gives ty is.0 rest is.2 (leaves_optional (mark mark_of.Equals) (leaves_token (symbol mark_of.Equals)) ts is.0 is.1 words)

tags_give : (tags : Option Ty) → Gives (AreTags tags) (IfThere HasNames tags)
tags_give None ts rest is words = (tt, leaves_nothing ts rest is words)
tags_give (Some ty) ts rest is words = type_gives ty is.0 rest is.2 (leaves_token (ident _) ts is.0 is.1 words)

some_texts : (texts : List Name) (ts rest : List Token) → some IsText texts ts rest → texts ≢ []
some_texts [] ts rest is = absurd is.1
some_texts (x ∷ texts) ts rest is = λ e. cc

body_gives : (it : Body) → Gives (IsBody it) (BodyHasNames it)
body_gives (choices texts) ts rest is words =
    let opened = leaves_token (symbol mark_of.OpenBracket) is.0 is.2.0 is.2.1 (leaves_token (ident _) ts is.0 is.1 words) in
    let here = some_gives IsText (λ x. ⊤) text_gives texts is.2.0 is.2.2.0 is.2.2.1 opened in
    (some_texts texts is.2.0 is.2.2.0 is.2.2.1, leaves_token (symbol mark_of.CloseBracket) is.2.2.0 rest is.2.2.2 here.1)
body_gives (standard parents shape tags) ts rest is words =
    let above = below_gives parents ts is.0 is.1 words in
    let shaped = shape_gives shape is.0 is.2.0 is.2.1 above.1 in
    let tagged = tags_give tags is.2.0 rest is.2.2 shaped.1 in
    ((above.0, shaped.0, tagged.0), tagged.1)

-- ---- actions

reference_gives : (ty : Option Path) (id : Name) → Gives (IsReference ty id) (IfThere IsNamePath ty)
reference_gives None id ts rest is words = (tt, leaves_name id ts rest is words)
reference_gives (Some path) id ts rest is words =
    let here = path_gives path ts is.0 is.1 words in
    let behind = leaves_token (symbol mark_of.PathSeparator) is.0 is.2.0 is.2.1 here.1 in
    (here.0, (text_gives id is.2.0 rest is.2.2 behind).1)

parent_gives : (p : Parent) → Gives (IsParent p) (ParentHasNames p)
parent_gives p ts rest is words = reference_gives p.ty p.id ts rest is.0 words

parents_give : (all : List Parent) → Gives (AreParents all) (AllByRecursion ParentHasNames all)
parents_give = bracketed_gives IsParent ParentHasNames parent_gives

in_gives : (parents : Option (List Parent)) → Gives (IsIn parents) (IfThere (AllByRecursion ParentHasNames) parents)
in_gives None ts rest is words = (tt, leaves_nothing ts rest is words)
in_gives (Some all) ts rest is words = parents_give all is.0 rest is.2 (leaves_token (ident _) ts is.0 is.1 words)

says_gives : (says : Says) (loc : Loc) → Gives (SaysSo says loc) (SaysNames says)
says_gives (principals all) loc ts rest is words =
    paths_give all is.2.0 rest is.2.2 (leaves_token (symbol mark_of.Colon) is.0 is.2.0 is.2.1 (subst Words is.1 words).1)
says_gives (resources all) loc ts rest is words =
    paths_give all is.2.0 rest is.2.2 (leaves_token (symbol mark_of.Colon) is.0 is.2.0 is.2.1 (subst Words is.1 words).1)
says_gives (context ty) loc ts rest is words =
    context_gives ty is.2.0 rest is.2.2 (leaves_token (symbol mark_of.Colon) is.0 is.2.0 is.2.1 (subst Words is.1 words).1)

part_gives : (p : Part) → Gives (IsPart p) (SaysNames p.says)
part_gives p = says_gives p.says p.loc

applies_give : (it : Option Applies) → Gives (IsApplies it) (IfThere AppliesHasNames it)
applies_give None ts rest is words = (tt, leaves_nothing ts rest is words)
applies_give (Some it) ts rest is words =
    let opened = leaves_token (symbol mark_of.OpenBrace) is.0.0 is.0.2.0 is.0.2.1 (leaves_token (ident _) ts is.0.0 is.0.1 words) in
    let here = some_gives IsPart (λ (part : Part). SaysNames part.says) part_gives it.parts is.0.2.0 is.0.2.2.0 is.0.2.2.1 opened in
    (here.0, leaves_token (symbol mark_of.CloseBrace) is.0.2.2.0 rest is.0.2.2.2 here.1)

leaves_values : Leaves no_values
leaves_values =
    leaves_optional (word_form (codes "attributes") then mark mark_of.OpenBrace then mark mark_of.CloseBrace)
    (leaves_then (word_form (codes "attributes")) (mark mark_of.OpenBrace then mark mark_of.CloseBrace) (leaves_token (ident (codes "attributes")))
    (leaves_then (mark mark_of.OpenBrace) (mark mark_of.CloseBrace) (leaves_token (symbol mark_of.OpenBrace)) (leaves_token (symbol mark_of.CloseBrace))))

-- ---- declarations

leaves_external : (external : Bool) → Leaves (IsExternal external)
leaves_external true = leaves_token (ident (codes "external"))
leaves_external false = leaves_nothing

item_gives : (it : Item) → Gives (IsItem it) (ItemHasNames it)
item_gives (entity external names body) ts rest is words =
    let begun = leaves_token (ident _) is.0 is.2.0 is.2.1 (leaves_external external ts is.0 is.1 words) in
    let ids = separated_gives IsId IsIdName token_at_gives mark_of.Comma names is.2.0 is.2.2.0 is.2.2.1 begun in
    let here = body_gives body is.2.2.0 rest is.2.2.2 ids.1 in
    ((ids.0, here.0), here.1)
item_gives (action external names parents applies) ts rest is words =
    let begun = leaves_token (ident _) is.0 is.2.0 is.2.1 (leaves_external external ts is.0 is.1 words) in
    let ids = separated_gives IsName (λ x. ⊤) name_gives mark_of.Comma names is.2.0 is.2.2.0 is.2.2.1 begun in
    let above = in_gives parents is.2.2.0 is.2.2.2.0 is.2.2.2.1 ids.1 in
    let here = applies_give applies is.2.2.2.0 is.2.2.2.2.0 is.2.2.2.2.1 above.1 in
    ((above.0, here.0), leaves_values is.2.2.2.2.0 rest is.2.2.2.2.2 here.1)
  where
    name_gives : (x : Name) → Gives (IsName x) ⊤
    name_gives x ts rest is words = (tt, leaves_name x ts rest is words)
item_gives (common name ty) ts rest is words =
    let id = token_at_gives name is.0 is.2.0 is.2.1 (leaves_token (ident _) ts is.0 is.1 words) in
    let here = type_gives ty is.2.2.0 rest is.2.2.2 (leaves_token (symbol mark_of.Equals) is.2.0 is.2.2.0 is.2.2.1 id.1) in
    ((id.0, here.0), here.1)

declaration_gives : (d : Declaration) → Gives (IsDeclaration d) (DeclarationHasNames d)
declaration_gives d ts rest is words =
    let here = item_gives d.item is.0 is.2.0.0 is.2.0.1 (leaves_annotations d.annotations ts is.0 is.1 words) in
    (here.0, leaves_token (symbol mark_of.Semicolon) is.2.0.0 rest is.2.0.2 here.1)

member_gives : (it : Member) → Gives (IsMember it) (MemberHasNames it)
member_gives (namespace annotations path declarations loc) ts rest is words =
    let begun = leaves_token (ident _) is.0 is.2.0 is.2.1 (leaves_annotations annotations ts is.0 is.1 words) in
    let id = path_gives path is.2.0 is.2.2.0 is.2.2.1 begun in
    let inside = is.2.2.2.0 in
    let opened = leaves_token (symbol mark_of.OpenBrace) is.2.2.0 inside.0 inside.1 id.1 in
    let here = many_gives IsDeclaration DeclarationHasNames declaration_gives declarations inside.0 inside.2.0 inside.2.1 opened in
    ((id.0, here.0), leaves_token (symbol mark_of.CloseBrace) inside.2.0 rest inside.2.2 here.1)
member_gives (alone d) ts rest is words = declaration_gives d ts rest is words

-- each path in the members of a text is a name
pub members_have_names : (source : ℕ) (all : Text) (members : List Member) → HasMembers source all members → AllByRecursion MemberHasNames members
members_have_names source all members has =
    let words = words_of source (length all) has.tokens all has.are_tokens.0 has.are_tokens.1 in
    (many_gives IsMember MemberHasNames member_gives members has.tokens [] has.is_schema words).0
