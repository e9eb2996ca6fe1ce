-- What is in scope as types are elaborated.
use Rattle.std.specs.BTreeMap.{BTreeMap}
use Rattle.std.specs.Prelude.{List, [], Contains, map}
use Rattle.cedar_ast.specs.Words.{PlainName, Text, extension_types, name_of}
use Rattle.cedar_ast.specs.declared.internal_name.InternalName.{InternalName}
use Rattle.cedar_elaboration.specs.declared.type_scope.TypeScope.{TypeScope}
use Rattle.cedar_name_resolution.specs.Words.{HoldsJust, held_names}
use Rattle.cedar_schema_ast.specs.Words.{Expr, Reference}
use Rattle.cedar_schema_semantics.specs.Words.{Defined, ElaboratesTo, IsCommon, MentionsExtension, Refers, ResolvesTo, names_of}
use Rattle.cedar_type_rules.specs.Ty.{Ty}
use Rattle.cedar_types.specs.Meaning.{ty_of}
use Rattle.cedar_types.specs.declared.types.Type.{«Type»}

-- the types of a map, each with the name that it stands under
abbrev pub elaborated_types : BTreeMap InternalName «Type» → List (PlainName × Ty)
elaborated_types types = map (λ entry. (name_of entry.0, ty_of entry.1)) types.entries

-- the name of the extension type of a base name
abbrev pub extension_name : Text → PlainName
extension_name word = record { base = word; path = [] }

-- each common type that stands in the map stands there as what it is elaborated as
abbrev pub HoldsElaborated : Defined → List (PlainName × Ty) → Type 0
HoldsElaborated defined types =
    (name : PlainName) (ty : Ty) → Contains types (name, ty)
    → (body : Expr) × Contains defined.common (name, body) × ElaboratesTo defined body ty

-- each common type that the expression names stands in the map
abbrev pub HoldsReferred : Defined → List (PlainName × Ty) → Expr → Type 0
HoldsReferred defined types expr =
    (reference : Reference) → Refers expr reference → (name : PlainName) (body : Expr)
    → ResolvesTo (names_of defined) reference name → IsCommon defined reference.kind name body
    → Contains (map (λ it. it.0) types) name

-- of what is defined enough is known for the expression: the names, and each common type that it
-- names with what this is elaborated as
pub record Covers (defined : Defined) (scope : TypeScope) (expr : Expr) : Type 0 where
  pub names : HoldsJust (held_names scope.defs.now) (names_of defined)
  pub elaborated : HoldsElaborated defined (elaborated_types scope.common.now)
  pub referred : HoldsReferred defined (elaborated_types scope.common.now) expr

-- the names of the extension types that are known
abbrev pub extensions_in_scope : TypeScope → List PlainName
extensions_in_scope scope = extension_types scope.extensions.now

-- whatever is defined, if enough of it is known for the expression, this is elaborated as the type
abbrev pub ElaboratesAs : TypeScope → Expr → Ty → Type 0
ElaboratesAs scope expr ty = (defined : Defined) → Covers defined scope expr
    → ElaboratesTo defined expr ty

-- whatever is defined, if enough of it is known for the expression, each reference in this resolves
abbrev pub ResolvesEach : TypeScope → Expr → Type 0
ResolvesEach scope expr =
    (defined : Defined) → Covers defined scope expr → (reference : Reference)
    → Refers expr reference
    → (name : PlainName) × ResolvesTo (names_of defined) reference name

-- each extension type that stands in the expression is known
abbrev pub CoversExtensions : TypeScope → Expr → Type 0
CoversExtensions scope expr =
    (word : Text) → MentionsExtension expr word
    → Contains (extensions_in_scope scope) (extension_name word)
