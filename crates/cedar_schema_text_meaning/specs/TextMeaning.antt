-- What text forms mean.
use Rattle.std.specs.Prelude.{◌↔◌, List, ◌∷◌, [], Contains, codes}
use Rattle.cedar_ast.specs.Words.{IsUnqualified, PlainName, Text, TypeNamesFit, extension_types}
use Rattle.cedar_ast.specs.declared.extension.Extensions.{Extensions}
use Rattle.cedar_schema_semantics.specs.Words.{Bag, IsDeclaredSchema, IsIllFormed, PlainSchema}
use Rattle.cedar_schema_text_meaning.specs.TextForm.{bag_form, first_by}
use Rattle.cedar_schema_text_meaning.specs.WritableBag.{IsWritableBag}

-- the names of Cedar's extension types
abbrev pub extension_words : List Text
extension_words =
    codes "ipaddr" ∷ codes "decimal" ∷ codes "datetime" ∷ codes "duration" ∷ []

-- no extension types are handed in but Cedar's own
abbrev pub HasKnownExtensions : Extensions → Type 0
HasKnownExtensions extensions = (name : PlainName) → Contains (extension_types extensions) name
    → IsUnqualified name × Contains extension_words name.base

-- a law: where a bag can be written, over no extension types but Cedar's own, it is ill-formed
-- exactly where its text form is; and where it isn't, both declare the same schemas
abbrev pub TextFormsMeanTheSame : Type 0
TextFormsMeanTheSame = (bag : Bag) (extensions : Extensions)
    → TypeNamesFit (extension_types extensions) → HasKnownExtensions extensions
    → IsWritableBag (first_by bag) bag
    → (IsIllFormed bag extensions ↔ IsIllFormed (bag_form bag) extensions)
    × (¬ IsIllFormed bag extensions → (schema : PlainSchema)
    → IsDeclaredSchema bag extensions schema ↔ IsDeclaredSchema (bag_form bag) extensions schema)
