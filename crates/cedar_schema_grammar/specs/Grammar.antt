-- The grammar of a schema's text (Cedar reference, "Schema format"). A part says of some tokens
-- that they begin with it, and of the rest that they go on after it.
use Rattle.std.specs.Prelude.{◌≡◌, ℕ, ◌-◌, List, [], ◌∷◌, length, drop, Bool, true, false, Option, None, Some, ◌⊎◌, codes}
use Rattle.cedar_ast.specs.declared.loc.Loc.{Loc}
use Rattle.cedar_schema_tokens.specs.Token.{Lexeme, ident, text, symbol, Token}
use Rattle.cedar_schema_tokens.specs.declared.token.Symbol.{Symbol}
use Rattle.cedar_schema_tokens.specs.declared.token.Symbol.TheVariants as sign
use Rattle.cedar_schema_grammar.specs.Tree.{Name, Path, Ty, named, set_of, record_of, Attributes, no_attributes, attribute, Parent, Says, principals, resources, context, Part, Applies, Body, choices, standard, Item, entity, action, common, Declaration, Member, namespace, alone}

abbrev pub Form : Type 1
Form = List Token → List Token → Type 0

-- ---- places

-- the place of the first token
abbrev pub first_loc : List Token → Loc
first_loc [] = record { source = 0; start = 0; stop = 0 }
first_loc (t ∷ ts) = t.loc

-- from the one place to the end of the other
abbrev pub span : Loc → Loc → Loc
span from to = record { source = from.source; start = from.start; stop = to.stop }

-- the place from the first of the tokens to the last one before the rest
abbrev pub between : List Token → List Token → Loc
between ts rest = span (first_loc ts) (first_loc (drop ((length ts - length rest) - 1) ts))

-- ---- forms

abbrev pub nothing : Form
nothing ts rest = ts ≡ rest

-- a token, at any place or at one
abbrev pub token : Lexeme → Form
token t ts rest = (loc : Loc) × (ts ≡ record { lexeme = t; loc = loc } ∷ rest)

abbrev pub token_at : Lexeme → Loc → Form
token_at t loc ts rest = ts ≡ record { lexeme = t; loc = loc } ∷ rest

abbrev pub mark : Symbol → Form
mark m = token (symbol m)

abbrev pub word : List ℕ → Form
word w = token (ident w)

infixr 6 ◌then◌
abbrev pub ◌then◌ : Form → Form → Form
(p then q) ts rest = (mid : List Token) × p ts mid × q mid rest

infixr 5 ◌or◌
abbrev pub ◌or◌ : Form → Form → Form
(p or q) ts rest = p ts rest ⊎ q ts rest

abbrev pub optional : Form → Form
optional p = p or nothing

-- the form stands at the place
infix 5 ◌at◌
abbrev pub ◌at◌ : Form → Loc → Form
(p at loc) ts rest = p ts rest × (loc ≡ between ts rest)

-- {x}
abbrev pub many : {A : Type 0} → (A → Form) → List A → Form
many x [] = nothing
many x (a ∷ others) = x a then many x others

-- x {separator x}
abbrev pub separated : {A : Type 0} → Symbol → (A → Form) → List A → Form
separated m x [] ts rest = ⊥
separated m x (a ∷ []) ts rest = x a ts rest
separated m x (a ∷ b ∷ more) ts rest = (x a then mark m then separated m x (b ∷ more)) ts rest

-- x {"," x} [","]
abbrev pub some : {A : Type 0} → (A → Form) → List A → Form
some x all = separated sign.Comma x all then optional (mark sign.Comma)

-- [x {"," x} [","]]
abbrev pub any : {A : Type 0} → (A → Form) → List A → Form
any x [] = nothing
any x (a ∷ others) = some x (a ∷ others)

-- one thing alone
abbrev pub only : {A : Type 0} → (A → Form) → List A → Form
only x [] ts rest = ⊥
only x (a ∷ []) ts rest = x a ts rest
only x (a ∷ b ∷ more) ts rest = ⊥

-- no things
abbrev pub none_of : {A : Type 0} → List A → Form
none_of [] = nothing
none_of (a ∷ others) = λ ts rest. ⊥

-- ---- ids, texts and paths

abbrev pub IsId : Name → Form
IsId x = token_at (ident x.text) x.loc

abbrev pub IsText : Name → Form
IsText x = token_at (text x.text) x.loc

-- name = ID | TEXT
abbrev pub IsName : Name → Form
IsName x = IsId x or IsText x

-- path = ID {"::" ID}
abbrev pub IsPath : Path → Form
IsPath p = separated sign.PathSeparator word p.ids at p.loc

-- TEXT, whatever it says
abbrev pub any_text : Form
any_text ts rest = (s : List ℕ) × token (text s) ts rest

-- "@" ID ["(" TEXT ")"]
abbrev pub IsAnnotation : Name → Form
IsAnnotation x =
    mark sign.At then IsId x
    then optional (mark sign.OpenParenthesis then any_text then mark sign.CloseParenthesis)

-- annotations = {"@" ID ["(" TEXT ")"]}
abbrev pub AreAnnotations : List Name → Form
AreAnnotations = many IsAnnotation

-- ["?"], which stands where the attribute may be absent
abbrev pub IsPresence : Bool → Form
IsPresence true = nothing
IsPresence false = mark sign.Question

-- ---- types

unfoldable mutual
  -- type = path | "Set" "<" type ">" | record
  pub IsType : Ty → List Token → List Token → Type 0
  IsType (named path) = IsPath path
  IsType (set_of element) =
      word (codes "Set") then mark sign.Less then IsType element then mark sign.Greater
  IsType (record_of all loc) =
      (mark sign.OpenBrace then AreAttributes all then mark sign.CloseBrace) at loc

  -- [attribute {"," attribute} [","]], where attribute = annotations name ["?"] ":" type
  pub AreAttributes : Attributes → List Token → List Token → Type 0
  AreAttributes no_attributes = nothing
  AreAttributes (attribute annotations name is_required ty more) =
      AreAnnotations annotations then IsName name then IsPresence is_required then mark sign.Colon
      then IsType ty then AreMore more

  -- {"," attribute} [","]
  pub AreMore : Attributes → List Token → List Token → Type 0
  AreMore no_attributes = optional (mark sign.Comma)
  AreMore (attribute annotations name is_required ty more) =
      mark sign.Comma then AreAnnotations annotations then IsName name then IsPresence is_required
      then mark sign.Colon then IsType ty then AreMore more

-- record = "{" [attribute {"," attribute} [","]] "}"
abbrev pub IsRecord : Ty → Form
IsRecord (named path) ts rest = ⊥
IsRecord (set_of element) ts rest = ⊥
IsRecord (record_of all loc) ts rest = IsType (record_of all loc) ts rest

-- path | record
abbrev pub IsContext : Ty → Form
IsContext (named path) ts rest = IsPath path ts rest
IsContext (set_of element) ts rest = ⊥
IsContext (record_of all loc) ts rest = IsType (record_of all loc) ts rest

-- ---- entity types

-- paths = path | "[" [path {"," path} [","]] "]"
abbrev pub ArePaths : List Path → Form
ArePaths ps = only IsPath ps or mark sign.OpenBracket then any IsPath ps then mark sign.CloseBracket

-- ["in" paths]
abbrev pub IsBelow : List Path → Form
IsBelow ps = word (codes "in") then ArePaths ps or none_of ps

-- [["="] record]
abbrev pub IsShape : Option Ty → Form
IsShape None = nothing
IsShape (Some ty) = optional (mark sign.Equals) then IsRecord ty

-- ["tags" type]
abbrev pub AreTags : Option Ty → Form
AreTags None = nothing
AreTags (Some ty) = word (codes "tags") then IsType ty

-- "enum" "[" TEXT {"," TEXT} [","] "]" | ["in" paths] [["="] record] ["tags" type]
abbrev pub IsBody : Body → Form
IsBody (choices texts) =
    word (codes "enum") then mark sign.OpenBracket then some IsText texts
    then mark sign.CloseBracket
IsBody (standard parents shape tags) = IsBelow parents then IsShape shape then AreTags tags

-- ---- actions

abbrev pub IsReference : Option Path → Name → Form
IsReference None id = IsName id
IsReference (Some path) id = IsPath path then mark sign.PathSeparator then IsText id

-- parent = name | path "::" TEXT
abbrev pub IsParent : Parent → Form
IsParent p = IsReference p.ty p.id at p.loc

-- parents = parent | "[" [parent {"," parent} [","]] "]"
abbrev pub AreParents : List Parent → Form
AreParents ps =
    only IsParent ps or mark sign.OpenBracket then any IsParent ps then mark sign.CloseBracket

-- part = ("principal"|"resource") ":" paths | "context" ":" (path|record)
abbrev pub SaysSo : Says → Loc → Form
SaysSo (principals ps) loc =
    token_at (ident (codes "principal")) loc then mark sign.Colon then ArePaths ps
SaysSo (resources ps) loc =
    token_at (ident (codes "resource")) loc then mark sign.Colon then ArePaths ps
SaysSo (context ty) loc =
    token_at (ident (codes "context")) loc then mark sign.Colon then IsContext ty

abbrev pub IsPart : Part → Form
IsPart p = SaysSo p.says p.loc

-- ["in" parents]
abbrev pub IsIn : Option (List Parent) → Form
IsIn None = nothing
IsIn (Some ps) = word (codes "in") then AreParents ps

-- ["appliesTo" "{" part {"," part} [","] "}"]
abbrev pub IsApplies : Option Applies → Form
IsApplies None = nothing
IsApplies (Some it) =
    (word (codes "appliesTo") then mark sign.OpenBrace then some IsPart it.parts
    then mark sign.CloseBrace) at it.loc

-- ["attributes" "{" "}"]
abbrev pub no_values : Form
no_values = optional (word (codes "attributes") then mark sign.OpenBrace then mark sign.CloseBrace)

-- ---- declarations

-- ["external"]
abbrev pub IsExternal : Bool → Form
IsExternal true = word (codes "external")
IsExternal false = nothing

-- entity = "entity" ID {"," ID} body
-- action = "action" name {"," name} ["in" parents] ["appliesTo" ..] ["attributes" "{" "}"]
-- common = "type" ID "=" type
abbrev pub IsItem : Item → Form
IsItem (entity external names body) =
    IsExternal external then word (codes "entity") then separated sign.Comma IsId names
    then IsBody body
IsItem (action external names parents applies) =
    IsExternal external then word (codes "action") then separated sign.Comma IsName names
    then IsIn parents then IsApplies applies then no_values
IsItem (common name ty) = word (codes "type") then IsId name then mark sign.Equals then IsType ty

-- annotations declaration, where declaration = (["external"] (entity|action) | common) ";"
abbrev pub IsDeclaration : Declaration → Form
IsDeclaration d =
    AreAnnotations d.annotations then ((IsItem d.item then mark sign.Semicolon) at d.loc)

-- annotations ("namespace" path "{" {annotations declaration} "}" | declaration)
abbrev pub IsMember : Member → Form
IsMember (namespace annotations path declarations loc) =
    AreAnnotations annotations then word (codes "namespace") then IsPath path
    then ((mark sign.OpenBrace then many IsDeclaration declarations
    then mark sign.CloseBrace) at loc)
IsMember (alone d) = IsDeclaration d

-- schema = {annotations ("namespace" path "{" {annotations declaration} "}" | declaration)}, all of
-- the tokens
abbrev pub IsSchema : List Member → List Token → Type 0
IsSchema members ts = many IsMember members ts []
