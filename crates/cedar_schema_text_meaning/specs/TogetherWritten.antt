-- Fragments that are written beside each other, and what is built of them.
use Rattle.std.specs.Prelude.{◌≡◌, Contains, Err, List, [], ◌∷◌, Ok, Result, map}
use Rattle.cedar_ast.specs.Words.{HoldsPairwise, SameItems, TypeNamesFit, extension_types}
use Rattle.cedar_ast.specs.declared.extension.Extensions.{Extensions}
use Rattle.cedar_schema_ast.specs.Words.{raw_bag, raw_fragment}
use Rattle.cedar_schema_ast.specs.declared.json_schema.fragment.Fragment.{Fragment}
use Rattle.cedar_schema_ast.specs.declared.json_schema.raw_name.RawName.{RawName}
use Rattle.cedar_schema_laws.specs.EndToEnd.{IsBuiltFrom}
use Rattle.cedar_schema_semantics.specs.ConvertedBack.{IsWritable as CanBeConvertedBack}
use Rattle.cedar_schema_semantics.specs.Words.{Bag, Fault, IsConvertedBack, PlainSchema, PositionsFit, SameSchema, out_of_memory}
use Rattle.cedar_schema_text_meaning.specs.TextForm.{bag_form, declaration_form, first_by}
use Rattle.cedar_schema_text_meaning.specs.TextMeaning.{HasKnownExtensions}
use Rattle.cedar_schema_text_meaning.specs.WritableBag.{IsWritableBag}
use Rattle.cedar_schema_text_writer.specs.Flaws.{IsWritable}
use Rattle.cedar_schema_text_writer.specs.Names.{first_beside}

-- a fragment can be written beside others, with which it is one of just these fragments
abbrev pub IsWritableAmong : List (Fragment RawName) → Fragment RawName → Type 0
IsWritableAmong fragments it = (beside : List (Fragment RawName))
    × SameItems (it ∷ beside) fragments × IsWritable (first_beside it beside) it

-- a fragment declares the text form of another that is written so
abbrev pub DeclaresForm : List (Fragment RawName) → Fragment RawName → Fragment RawName → Type 0
DeclaresForm fragments it other = (beside : List (Fragment RawName))
    × SameItems (it ∷ beside) fragments
    × (raw_fragment other ≡ map (declaration_form (first_beside it beside)) (raw_fragment it))

-- each of the fragments can be written beside the others
abbrev pub AreWritable : List (Fragment RawName) → Type 0
AreWritable fragments =
    (it : Fragment RawName) → Contains fragments it → IsWritableAmong fragments it

-- fragments declare the text forms of others, in turn
abbrev pub DeclareForms : List (Fragment RawName) → List (Fragment RawName) → Type 0
DeclareForms fragments others = HoldsPairwise (DeclaresForm fragments) fragments others

-- a law: the bag of fragments that can be written beside each other can be written
abbrev pub WritableFragmentsAreAWritableBag : Type 0
WritableFragmentsAreAWritableBag = (fragments : List (Fragment RawName)) → AreWritable fragments
    → IsWritableBag (first_by (raw_bag fragments)) (raw_bag fragments)

-- a law: the bag of fragments that declare the text forms of others is the text form of their bag
abbrev pub FormsOfFragmentsAreTheFormOfTheirBag : Type 0
FormsOfFragmentsAreTheFormOfTheirBag = (fragments others : List (Fragment RawName))
    → DeclareForms fragments others → raw_bag others ≡ bag_form (raw_bag fragments)

-- what two builders answer agrees, but where memory ran out: both are refusals, or both schemas are
-- the same
abbrev pub AnswersAgree : Result PlainSchema Fault → Result PlainSchema Fault → Type 0
AnswersAgree (Ok schema) (Ok other) = SameSchema schema other
AnswersAgree (Ok schema) (Err fault) = fault ≡ out_of_memory
AnswersAgree (Err fault) (Ok other) = fault ≡ out_of_memory
AnswersAgree (Err fault) (Err other) = Unit {0}

-- a law: what is answered for fragments that can be written beside each other, over no extension
-- types but Cedar's own, and what is for fragments that declare their text forms agree
abbrev pub TextFormsAreAnsweredAlike : Type 0
TextFormsAreAnsweredAlike = (fragments others : List (Fragment RawName)) (extensions : Extensions)
    (answer other : Result PlainSchema Fault)
    → TypeNamesFit (extension_types extensions) → HasKnownExtensions extensions
    → AreWritable fragments → DeclareForms fragments others
    → IsBuiltFrom (raw_bag fragments) extensions answer
    → IsBuiltFrom (raw_bag others) extensions other → AnswersAgree answer other

-- a law: a schema that is built from a bag whose references fit their positions, and is converted
-- back as a fragment that can be written, comes back: what is answered for a fragment that declares
-- the text form of this one is the same schema, or memory ran out
abbrev pub SchemasComeBackThroughText : Type 0
SchemasComeBackThroughText = (bag : Bag) (extensions : Extensions) (schema : PlainSchema)
    (fragment other : Fragment RawName) (answer : Result PlainSchema Fault)
    → TypeNamesFit (extension_types extensions) → HasKnownExtensions extensions → PositionsFit bag
    → IsBuiltFrom bag extensions (Ok schema)
    → CanBeConvertedBack schema → IsConvertedBack schema (raw_fragment fragment)
    → IsWritableAmong (fragment ∷ []) fragment → DeclaresForm (fragment ∷ []) fragment other
    → IsBuiltFrom (raw_fragment other) extensions answer → AnswersAgree (Ok schema) answer
