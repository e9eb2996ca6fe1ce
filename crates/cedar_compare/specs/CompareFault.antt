-- Why two versions of a schema aren't compared.
use Rattle.std.specs.Prelude.{◌≡◌, ◌++◌, List, ℕ, Contains, codes, string_bytes}
use Rattle.cedar_ast.specs.Words.{PlainName, PlainUid, Tree}
use Rattle.cedar_ast.specs.declared.extension.Extensions.{Extensions}
use Rattle.cedar_compare.specs.Sampled.{IsSampled, IsSchemaSampled}
use Rattle.cedar_compare.specs.declared.compare_fault.CompareFault.{CompareFault}
use Rattle.cedar_compare.specs.declared.compare_fault.CompareFault.TheVariants as fault
use Rattle.cedar_compare.specs.declared.compare_fault.Version.{Version}
use Rattle.cedar_compare.specs.declared.compare_fault.Version.TheVariants.{New, Old}
use Rattle.cedar_queries.specs.Leaves.{schema_leaves}
use Rattle.cedar_schema_semantics.specs.Words.{PlainSchema, SchemaAction, SchemaEntityType, external_action, external_kind}
use Rattle.cedar_type_rules.specs.Words.{Ty, ty_text}

-- the word for a version
abbrev pub version_word : Version → List ℕ
version_word Old = codes "old"
version_word New = codes "new"

-- a refusal as it is printed
abbrev pub fault_text : CompareFault → List ℕ
fault_text (fault.Incomplete version) =
    codes "the " ++ version_word version ++ codes " schema is incomplete"
fault_text (fault.Unsampled version ty) =
    codes "the " ++ version_word version ++ codes " schema has a type without a sample: "
    ++ string_bytes ty
fault_text (fault.Memory refused) = codes "out of memory"

-- nothing in a schema is declared to be elsewhere
pub record IsCompleteSchema (schema : PlainSchema) : Type 0 where
  pub entity_types : (name : PlainName) (it : SchemaEntityType)
      → Contains schema.entity_types (name, it) → ¬ (it.kind ≡ external_kind)
  pub actions : (uid : PlainUid) (it : SchemaAction)
      → Contains schema.actions (uid, it) → ¬ (it.kind ≡ external_action)

-- the text is that of a type that stands in a schema, as one of the leaves of its types, and isn't
-- sampled
abbrev pub IsUnsampledType : Extensions → List Tree → PlainSchema → List ℕ → Type 0
IsUnsampledType extensions samples schema text = (ty : Ty)
    × Contains (schema_leaves schema.entity_types schema.actions) ty
    × (¬ IsSampled extensions samples schema ty) × (text ≡ ty_text ty)

-- a refusal is true of two schemas; that memory ran out says nothing of them
abbrev pub IsCompareFault : Extensions → List Tree → PlainSchema → PlainSchema → CompareFault
    → Type 0
IsCompareFault extensions samples old new (fault.Incomplete Old) = ¬ IsCompleteSchema old
IsCompareFault extensions samples old new (fault.Incomplete New) = ¬ IsCompleteSchema new
IsCompareFault extensions samples old new (fault.Unsampled Old ty) =
    IsUnsampledType extensions samples old (string_bytes ty)
IsCompareFault extensions samples old new (fault.Unsampled New ty) =
    IsUnsampledType extensions samples new (string_bytes ty)
IsCompareFault extensions samples old new (fault.Memory refused) = Unit {0}

-- a schema can be compared: it is complete, and each type in it is sampled
pub record IsComparable (extensions : Extensions) (samples : List Tree)
    (schema : PlainSchema) : Type 0 where
  pub complete : IsCompleteSchema schema
  pub sampled : IsSchemaSampled extensions samples schema

-- a refusal is true of one of two versions
abbrev pub IsVersionFault : Extensions → List Tree → Version → PlainSchema → CompareFault → Type 0
IsVersionFault extensions samples version schema (fault.Incomplete which) =
    (which ≡ version) × ¬ IsCompleteSchema schema
IsVersionFault extensions samples version schema (fault.Unsampled which ty) =
    (which ≡ version) × IsUnsampledType extensions samples schema (string_bytes ty)
IsVersionFault extensions samples version schema (fault.Memory refused) = Unit {0}
