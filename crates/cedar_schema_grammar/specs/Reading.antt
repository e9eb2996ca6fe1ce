-- Reading, a token at a time, as a function.
use Rattle.std.specs.Prelude.{ℕ, zero, suc, Bool, true, false, not, ◌&&◌, if◌then◌else◌, List, [], ◌∷◌, ◌++◌, length, drop, Result, Ok, Err, codes, bytes_eq, Option, Some, None}
use denote.Enum.Bare.{sameb}
use Rattle.cedar_ast.specs.declared.loc.Loc.{Loc}
use Rattle.cedar_schema_tokens.specs.contracts.token.Symbol.{the_type}
use Rattle.cedar_schema_tokens.specs.declared.token.Symbol.{Symbol}
use Rattle.cedar_schema_tokens.specs.declared.token.Symbol.TheVariants as sign
use Rattle.cedar_schema_grammar.specs.declared.fault.Stop.{Stop}
use Rattle.cedar_schema_grammar.specs.declared.fault.Stop.TheVariants.{Unexpected, TooDeep}
use Rattle.cedar_schema_tokens.specs.Token.{Lexeme, ident, text, symbol, Token}
use Rattle.cedar_schema_grammar.specs.Tree.{Name, Path, Ty, named, set_of, record_of, Attribute, attributes_from, Parent, Says, principals, resources, context, Part, Applies, Body, choices, standard, Item, entity, action, common, Declaration, Member, namespace, alone}
use Rattle.cedar_schema_grammar.specs.Grammar.{first_loc, span, between}

abbrev pub Outcome : Type 0 → Type 0
Outcome A = Result (A × List Token) Stop

abbrev pub Reader : Type 0 → Type 0
Reader A = List Token → Outcome A

abbrev pub and_then : {A B : Type 0} → Outcome A → (A → Reader B) → Outcome B
and_then (Ok p) f = f p.0 p.1
and_then (Err e) f = Err e

infixl 10 ◌>>=◌
abbrev pub ◌>>=◌ : {A B : Type 0} → Reader A → (A → Reader B) → Reader B
p >>= f = λ ts. and_then (p ts) f

infixl 10 ◌>>◌
abbrev pub ◌>>◌ : {A B : Type 0} → Reader A → Reader B → Reader B
p >> q = p >>= (λ _. q)

abbrev pub pure : {A : Type 0} → A → Reader A
pure a = λ ts. Ok (a, ts)

-- the tokens that are still to come
abbrev pub here : Reader (List Token)
here = λ ts. Ok (ts, ts)

-- a refusal tells how many tokens are left
abbrev pub unexpected : {A : Type 0} → Reader A
unexpected = λ ts. Err (Unexpected (length ts))

abbrev pub too_deep : {A : Type 0} → Reader A
too_deep = λ ts. Err (TooDeep (length ts))

-- ---- single tokens

abbrev pub same_symbol : Symbol → Symbol → Bool
same_symbol = sameb the_type

abbrev pub is_symbol : Symbol → Lexeme → Bool
is_symbol m (ident s) = false
is_symbol m (text s) = false
is_symbol m (symbol k) = same_symbol k m

abbrev pub is_word : List ℕ → Lexeme → Bool
is_word w (ident s) = bytes_eq s w
is_word w (text s) = false
is_word w (symbol k) = false

abbrev pub is_text : Lexeme → Bool
is_text (ident s) = false
is_text (text s) = true
is_text (symbol k) = false

abbrev pub id_of : Lexeme → Option (List ℕ)
id_of (ident s) = Some s
id_of (text s) = None
id_of (symbol k) = None

abbrev pub text_of : Lexeme → Option (List ℕ)
text_of (ident s) = None
text_of (text s) = Some s
text_of (symbol k) = None

abbrev pub name_of : Lexeme → Option (List ℕ)
name_of (ident s) = Some s
name_of (text s) = Some s
name_of (symbol k) = None

abbrev pub first_is : (Lexeme → Bool) → List Token → Bool
first_is p [] = false
first_is p (t ∷ ts) = p t.lexeme

abbrev pub sees : Symbol → List Token → Bool
sees m = first_is (is_symbol m)

abbrev pub sees_word : List ℕ → List Token → Bool
sees_word w = first_is (is_word w)

abbrev pub sees_text : List Token → Bool
sees_text = first_is is_text

abbrev pub after : (List Token → Bool) → List Token → List Token
after p ts = if p ts then drop 1 ts else ts

-- takes the first token where it passes
abbrev pub eat_if : (List Token → Bool) → Reader Bool
eat_if p = λ ts. Ok (p ts, after p ts)

abbrev pub eat : Symbol → Reader Bool
eat m = eat_if (sees m)

abbrev pub eat_word : List ℕ → Reader Bool
eat_word w = eat_if (sees_word w)

abbrev pub expect_if : (List Token → Bool) → Reader (Unit {0})
expect_if p = λ ts. if p ts then Ok (tt, drop 1 ts) else unexpected ts

abbrev pub expect : Symbol → Reader (Unit {0})
expect m = expect_if (sees m)

abbrev pub expect_word : List ℕ → Reader (Unit {0})
expect_word w = expect_if (sees_word w)

abbrev pub taken : List Token → Loc → List Token → Option (List ℕ) → Outcome Name
taken all loc ts (Some s) = Ok (record { text = s; loc = loc }, ts)
taken all loc ts None = unexpected all

-- what the first token gives, with its place
abbrev pub take_first : (Lexeme → Option (List ℕ)) → Reader Name
take_first f [] = unexpected []
take_first f (t ∷ ts) = taken (t ∷ ts) t.loc ts (f t.lexeme)

abbrev pub id : Reader Name
id = take_first id_of

abbrev pub id_text : Reader (List ℕ)
id_text = id >>= (λ x. pure x.text)

abbrev pub quoted : Reader Name
quoted = take_first text_of

abbrev pub name : Reader Name
name = take_first name_of

-- ---- lists. A number bounds the turns of a loop; the count of the tokens that are left is enough.

module _ {A : Type 0} (item : Reader A) where
  -- item {separator item}
  unfoldable pub separated_from : Symbol → ℕ → List A → Reader (List A)
  separated_from m zero found = unexpected
  separated_from m (suc n) found = do
    x ← item
    more ← eat m
    if more then separated_from m n (found ++ x ∷ []) else pure (found ++ x ∷ [])

  abbrev pub separated : Symbol → Reader (List A)
  separated m = λ ts. separated_from m (length ts) [] ts

  -- [item {"," item} [","]] and the symbol that closes
  unfoldable pub until_from : Symbol → ℕ → List A → Reader (List A)
  until_from close zero found = unexpected
  until_from close (suc n) found = do
    closed ← eat close
    if closed then pure found else (do
      x ← item
      more ← eat sign.Comma
      if more then until_from close n (found ++ x ∷ []) else (do
        expect close
        pure (found ++ x ∷ [])))

  abbrev pub until : Symbol → Reader (List A)
  until close = λ ts. until_from close (length ts) [] ts

  -- item {"," item} [","] and the symbol that closes
  abbrev pub some_until : Symbol → Reader (List A)
  some_until close = λ ts. if sees close ts then unexpected ts else until close ts

  -- {item}, as long as a test passes
  unfoldable pub while_from : (List Token → Bool) → ℕ → List A → Reader (List A)
  while_from go zero found = pure found
  while_from go (suc n) found =
      λ ts. if go ts then and_then (item ts) (λ x. while_from go n (found ++ x ∷ []))
      else Ok (found, ts)

  abbrev pub while : (List Token → Bool) → Reader (List A)
  while go = λ ts. while_from go (length ts) [] ts

-- ---- paths and annotations

unfoldable pub path : Reader Path
path = do
  start ← here
  ids ← separated id_text sign.PathSeparator
  stop ← here
  pure (record { ids = ids; loc = between start stop })

unfoldable pub annotation : Reader Name
annotation = do
  expect sign.At
  x ← id
  more ← eat sign.OpenParenthesis
  if more then (do
    quoted
    expect sign.CloseParenthesis
    pure x) else pure x

abbrev pub annotations : Reader (List Name)
annotations = while annotation (sees sign.At)

-- ---- types

abbrev pub begins_set : List Token → Bool
begins_set ts = sees_word (codes "Set") ts && sees sign.Less (drop 1 ts)

module _ (inner : Reader Ty) where
  unfoldable pub attribute_with : Reader Attribute
  attribute_with = do
    notes ← annotations
    x ← name
    absent ← eat sign.Question
    expect sign.Colon
    ty ← inner
    pure (record { annotations = notes; name = x; is_required = not absent; of = ty })

  -- from `Set <` on
  unfoldable pub set_with : Reader Ty
  set_with =
      λ ts. and_then (inner (drop 2 ts)) (λ element. expect sign.Greater >> pure (set_of element))

  -- from `{` on
  unfoldable pub record_with : Reader Ty
  record_with =
      λ ts. and_then (until attribute_with sign.CloseBrace (drop 1 ts))
      (λ all rest. Ok (record_of (attributes_from all) (between ts rest), rest))

-- by what it begins with
abbrev pub type_by : Reader Ty → Reader Ty → Reader Ty
type_by set whole = λ ts.
    if sees sign.OpenBrace ts then whole ts
    else (if begins_set ts then set ts else and_then (path ts) (λ p. pure (named p)))

-- sets and records nest no deeper than the number
unfoldable pub type_at : ℕ → Reader Ty
type_at zero = type_by too_deep too_deep
type_at (suc limit) = type_by (set_with (type_at limit)) (record_with (type_at limit))

module _ (limit : ℕ) where
  -- a record
  abbrev pub record_type : Reader Ty
  record_type = λ ts. if sees sign.OpenBrace ts then type_at limit ts else unexpected ts

  -- a path or a record
  abbrev pub context_type : Reader Ty
  context_type =
      λ ts. if sees sign.OpenBrace ts then type_at limit ts
      else and_then (path ts) (λ p. pure (named p))

  -- ---- entity types

  abbrev pub some_of : {A : Type 0} → Reader A → Reader (Option A)
  some_of p = p >>= (λ x. pure (Some x))

  -- [["="] record]
  unfoldable pub shape : Reader (Option Ty)
  shape = do
    equals ← eat sign.Equals
    ts ← here
    if equals then some_of record_type
        else (if sees sign.OpenBrace ts then some_of record_type else pure None)

  -- ["tags" type]
  unfoldable pub tags : Reader (Option Ty)
  tags = do
    there ← eat_word (codes "tags")
    if there then some_of (type_at limit) else pure None

-- one item, or any in brackets
abbrev pub one_or_listed : {A : Type 0} → Reader A → Reader (List A)
one_or_listed item = do
  listed ← eat sign.OpenBracket
  if listed then until item sign.CloseBracket else item >>= (λ x. pure (x ∷ []))

unfoldable pub paths : Reader (List Path)
paths = one_or_listed path

-- ["in" paths]
unfoldable pub below : Reader (List Path)
below = do
  there ← eat_word (codes "in")
  if there then paths else pure []

unfoldable pub body : ℕ → Reader Body
body limit = do
  listed ← eat_word (codes "enum")
  if listed then (do
    expect sign.OpenBracket
    texts ← some_until quoted sign.CloseBracket
    pure (choices texts)) else (do
      parents ← below
      form ← shape limit
      of_tags ← tags limit
      pure (standard parents form of_tags))

-- ---- actions

-- {ID "::"}, before a text, behind ids that begin and end at these places
unfoldable pub qualifier_from : Loc → ℕ → List (List ℕ) → Loc → Reader Path
qualifier_from from zero found last = unexpected
qualifier_from from (suc n) found last =
    λ ts. if sees_text ts then Ok (record { ids = found; loc = span from last }, ts) else (do
      x ← id
      expect sign.PathSeparator
      qualifier_from from n (found ++ x.text ∷ []) x.loc) ts

-- the path of a parent, behind its first id and `::`
abbrev pub qualifier : Name → Reader Path
qualifier first = λ ts. qualifier_from first.loc (length ts) (first.text ∷ []) first.loc ts

abbrev pub plain_parent : Name → Parent
plain_parent x = record { ty = None; id = x; loc = x.loc }

-- behind the first id of a parent and `::`
unfoldable pub qualified : Name → Reader Parent
qualified first = do
  p ← qualifier first
  x ← quoted
  pure (record { ty = Some p; id = x; loc = span first.loc x.loc })

unfoldable pub parent : Reader Parent
parent = λ ts. if sees_text ts then and_then (quoted ts) (λ x. pure (plain_parent x)) else (do
  first ← id
  more ← eat sign.PathSeparator
  if more then qualified first else pure (plain_parent first)) ts

unfoldable pub parents : Reader (List Parent)
parents = one_or_listed parent

-- ["in" parents]
unfoldable pub inside : Reader (Option (List Parent))
inside = do
  there ← eat_word (codes "in")
  if there then parents >>= (λ ps. pure (Some ps)) else pure None

-- ":" paths
unfoldable pub said_paths : Reader (List Path)
said_paths = do
  expect sign.Colon
  paths

module _ (limit : ℕ) where
  -- ":" (path|record)
  unfoldable pub said_context : Reader Ty
  said_context = do
    expect sign.Colon
    context_type limit

  abbrev pub part_at : Loc → Says → Reader Part
  part_at loc what = pure (record { says = what; loc = loc })

  unfoldable pub part : Reader Part
  part = do
    at ← here
    of_context ← eat_word (codes "context")
    if of_context then said_context >>= (λ ty. part_at (first_loc at) (context ty)) else (do
      of_principals ← eat_word (codes "principal")
      if of_principals then said_paths >>= (λ ps. part_at (first_loc at) (principals ps)) else (do
        expect_word (codes "resource")
        said_paths >>= (λ ps. part_at (first_loc at) (resources ps))))

  -- ["appliesTo" "{" part {"," part} [","] "}"]
  unfoldable pub applies : Reader (Option Applies)
  applies = do
    start ← here
    there ← eat_word (codes "appliesTo")
    if there then (do
      expect sign.OpenBrace
      all ← some_until part sign.CloseBrace
      stop ← here
      pure (Some (record { parts = all; loc = between start stop }))) else pure None

-- ["attributes" "{" "}"]
unfoldable pub no_values : Reader (Unit {0})
no_values = do
  there ← eat_word (codes "attributes")
  if there then (do
    expect sign.OpenBrace
    expect sign.CloseBrace) else pure tt

-- ---- declarations

abbrev pub before_close : List Token → Bool
before_close ts = not (sees sign.CloseBrace ts)

abbrev pub is_more : List Token → Bool
is_more [] = false
is_more (t ∷ ts) = true

module _ (limit : ℕ) where
  unfoldable pub entity_item : Bool → Reader Item
  entity_item external = do
    names ← separated id sign.Comma
    it ← body limit
    pure (entity external names it)

  unfoldable pub action_item : Bool → Reader Item
  action_item external = do
    names ← separated name sign.Comma
    above ← inside
    requests ← applies limit
    no_values
    pure (action external names above requests)

  unfoldable pub common_item : Reader Item
  common_item = do
    x ← id
    expect sign.Equals
    ty ← type_at limit
    pure (common x ty)

  -- behind `external` or its absence
  unfoldable pub declared : Bool → Reader Item
  declared external = do
    of_entity ← eat_word (codes "entity")
    if of_entity then entity_item external else (do
      expect_word (codes "action")
      action_item external)

  unfoldable pub item : Reader Item
  item = do
    of_common ← eat_word (codes "type")
    if of_common then common_item else (do
      external ← eat_word (codes "external")
      declared external)

  -- behind the annotations
  unfoldable pub annotated : List Name → Reader Declaration
  annotated notes = do
    start ← here
    it ← item
    expect sign.Semicolon
    stop ← here
    pure (record { annotations = notes; item = it; loc = between start stop })

  unfoldable pub declaration : Reader Declaration
  declaration = do
    notes ← annotations
    annotated notes

  -- behind the annotations and `namespace`
  unfoldable pub block : List Name → Reader Member
  block notes = do
    p ← path
    start ← here
    expect sign.OpenBrace
    all ← while declaration before_close
    expect sign.CloseBrace
    stop ← here
    pure (namespace notes p all (between start stop))

  unfoldable pub member : Reader Member
  member = do
    notes ← annotations
    of_block ← eat_word (codes "namespace")
    if of_block then block notes else (annotated notes >>= (λ d. pure (alone d)))

  -- all of the tokens
  unfoldable pub members : Reader (List Member)
  members = while member is_more
