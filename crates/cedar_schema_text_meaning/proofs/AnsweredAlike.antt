-- Builders answer alike for what can be written and for its text form.
use Rattle.std.proofs.Common.{◌≡◌, [], ◌∷◌, Err, Ok, Result, append-nil, inl, inr, subst, sym, ◌∙◌}
use Rattle.cedar_ast.proofs.Basics.{Contains-single}
use Rattle.cedar_ast.specs.Words.{TypeNamesFit, extension_types}
use Rattle.cedar_ast.specs.declared.extension.Extensions.{Extensions}
use Rattle.cedar_schema_ast.specs.Words.{raw_bag, raw_fragment}
use Rattle.cedar_schema_ast.specs.declared.json_schema.fragment.Fragment.{Fragment}
use Rattle.cedar_schema_ast.specs.declared.json_schema.raw_name.RawName.{RawName}
use Rattle.cedar_schema_laws.proofs.ComeBack.{declared_schemas_come_back}
use Rattle.cedar_schema_laws.specs.EndToEnd.{IsBuiltFrom}
use Rattle.cedar_schema_semantics.specs.Words.{Bag, Fault, IsConvertedBack, IsDeclaredSchema, IsIllFormed, PlainSchema}
use Rattle.cedar_schema_text_meaning.proofs.SameMeaning.{same_meaning}
use Rattle.cedar_schema_text_meaning.proofs.WritableFragments.{forms_together, writable_fragments}
use Rattle.cedar_schema_text_meaning.specs.TextForm.{bag_form, first_by}
use Rattle.cedar_schema_text_meaning.specs.TextMeaning.{HasKnownExtensions}
use Rattle.cedar_schema_text_meaning.specs.TogetherWritten.{AnswersAgree, IsWritableAmong, SchemasComeBackThroughText, TextFormsAreAnsweredAlike}
use Rattle.cedar_schema_text_meaning.specs.WritableBag.{IsWritableBag}

module _ (bag : Bag) (extensions : Extensions) (fit : TypeNamesFit (extension_types extensions)) (known : HasKnownExtensions extensions)
    (writable : IsWritableBag (first_by bag) bag) where
  -- where a bag declares a schema, what is answered for its text form is that, or memory ran out
  declared_alike : (schema : PlainSchema) (answer : Result PlainSchema Fault) → ¬ IsIllFormed bag extensions → IsDeclaredSchema bag extensions schema
      → IsBuiltFrom (bag_form bag) extensions answer → AnswersAgree (Ok schema) answer
  declared_alike schema (Ok other) well declared built =
      let same = same_meaning bag extensions fit known writable in built.only schema ((same.1 well schema).0 declared)
  declared_alike schema (Err fault) well declared built =
      let same = same_meaning bag extensions fit known writable in
      elim built.fault [ inl memory ↦ memory | inr at_fault ↦ absurd (well (same.0.1 (fault, at_fault))) ]

  -- what is answered for a bag and for its text form agrees
  answers_agree : (answer other : Result PlainSchema Fault) → IsBuiltFrom bag extensions answer → IsBuiltFrom (bag_form bag) extensions other
      → AnswersAgree answer other
  answers_agree (Ok schema) other built rebuilt = declared_alike schema other built.well_formed built.declared rebuilt
  answers_agree (Err fault) (Ok other) built rebuilt =
      let same = same_meaning bag extensions fit known writable in
      elim built.fault [ inl memory ↦ memory | inr at_fault ↦ absurd (rebuilt.well_formed (same.0.0 (fault, at_fault))) ]
  answers_agree (Err fault) (Err other) built rebuilt = tt

-- what is answered for fragments that can be written and for their text forms agrees
pub answered_alike : TextFormsAreAnsweredAlike
answered_alike fragments others extensions answer other fit known writable forms built rebuilt =
    answers_agree (raw_bag fragments) extensions fit known (writable_fragments fragments writable) answer other built
    (subst (λ each. IsBuiltFrom each extensions other) (forms_together fragments others forms) rebuilt)

-- the bag of one fragment holds its declarations
alone : (fragment : Fragment RawName) → raw_bag (fragment ∷ []) ≡ raw_fragment fragment
alone fragment = append-nil (raw_fragment fragment)

-- a schema that is built and converted back comes back through text
pub come_back_through_text : SchemasComeBackThroughText
come_back_through_text bag extensions schema fragment other answer fit known places built convertible converted writable form rebuilt =
    let again = raw_bag (fragment ∷ []) in
    let back = declared_schemas_come_back bag again extensions schema fit places built.well_formed built.declared convertible
    (subst (IsConvertedBack schema) (sym (alone fragment)) converted) in
    let of_form : raw_fragment other ≡ bag_form again = sym (alone other) ∙ forms_together (fragment ∷ []) (other ∷ []) (form, tt) in
    declared_alike again extensions fit known (writable_fragments (fragment ∷ []) (λ it among.
    subst (λ each. IsWritableAmong (fragment ∷ []) each) (Contains-single fragment it among) writable)) schema answer back.0 back.1
    (subst (λ each. IsBuiltFrom each extensions answer) of_form rebuilt)
