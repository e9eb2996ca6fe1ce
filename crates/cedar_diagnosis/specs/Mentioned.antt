-- What stands in the types and at the positions of a declaration.
use Rattle.std.specs.Prelude.{◌⊎◌, ◌↔◌, IsTrue, List, [], map}
use Rattle.cedar_ast.specs.Words.{Text, unreserved_id_text}
use Rattle.cedar_diagnosis.specs.Adding.{Adds}
use Rattle.cedar_diagnosis.specs.declared.mentions.Mentions.{Mentions}
use Rattle.cedar_diagnosis.specs.declared.mentions.WrittenReference.{WrittenReference}
use Rattle.cedar_schema_ast.specs.Words.{Body, Expr, Reference, namespace_name, raw_reference}
use Rattle.cedar_schema_semantics.specs.Words.{CountsIn, HasOpenRecord, IsEntityTypePosition, MentionsExtension, Refers}

-- the reference that is written
abbrev pub reference_of : WrittenReference → Reference
reference_of it = raw_reference (namespace_name it.namespace) it.kind it.name.now

-- the references that are listed
abbrev pub references_in : Mentions → List Reference
references_in it = map reference_of it.references.items

-- the base names of extension types that are listed
abbrev pub extensions_in : Mentions → List Text
extensions_in it = map (λ id. unreserved_id_text id.now) it.extensions.items

-- references, extension types and maybe an open record are added to what is mentioned
pub record AddsAll (Refers : Reference → Type 0) (Mentions' : Text → Type 0) (Open : Type 0)
    (before after : Mentions) : Type 0 where
  pub references : Adds Refers (references_in before) (references_in after)
  pub extensions : Adds Mentions' (extensions_in before) (extensions_in after)
  pub open_record : IsTrue after.has_open_record ↔ (IsTrue before.has_open_record ⊎ Open)

-- what stands in the expression is added
abbrev pub AddsMentions : Expr → Mentions → Mentions → Type 0
AddsMentions expr = AddsAll (Refers expr) (MentionsExtension expr) (HasOpenRecord expr)

-- the reference stands in an expression that counts in what is declared
abbrev pub RefersIn : Body → Reference → Type 0
RefersIn body reference = (expr : Expr) × CountsIn body expr × Refers expr reference

-- the extension type stands in one
abbrev pub MentionsIn : Body → Text → Type 0
MentionsIn body word = (expr : Expr) × CountsIn body expr × MentionsExtension expr word

-- an open record stands in one
abbrev pub HasOpenIn : Body → Type 0
HasOpenIn body = (expr : Expr) × CountsIn body expr × HasOpenRecord expr

-- what stands in the expressions that count in what is declared is added
abbrev pub AddsCounted : Body → Mentions → Mentions → Type 0
AddsCounted body = AddsAll (RefersIn body) (MentionsIn body) (HasOpenIn body)

-- just what stands in the expressions that count is mentioned
pub record IsMentioned (body : Body) (mentions : Mentions) : Type 0 where
  pub references : Adds (RefersIn body) [] (references_in mentions)
  pub extensions : Adds (MentionsIn body) [] (extensions_in mentions)
  pub open_record : IsTrue mentions.has_open_record ↔ HasOpenIn body

-- the reference has to name something: it stands in an expression that counts in what is declared,
-- or at the position of an entity type
abbrev pub HasToResolveIn : Body → Reference → Type 0
HasToResolveIn body reference = RefersIn body reference ⊎ IsEntityTypePosition body reference
