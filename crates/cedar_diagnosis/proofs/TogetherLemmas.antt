-- Kinds of faults, told one after another.
use Rattle.std.proofs.Common.{◌≡◌, List, [], ◌∷◌, ◌++◌, ap, sym, ◌∙◌, refl, inl, inr, append_assoc, Contains}
use Rattle.std.proofs.lemmas.List.{append-nil}
use Rattle.std.proofs.lemmas.List.Elements.{Contains-append_left, Contains-append_right, Contains-append_cases}
use Rattle.std.specs.List.{AllByRecursion}
use Rattle.cedar_ast.proofs.Basics.{AllByRecursion-at, Contains-none, Contains-single}
use Rattle.cedar_ast.proofs.Lists.{Contains-cons}
use Rattle.cedar_ast.specs.Words.{Twice}
use Rattle.cedar_ast.specs.declared.extension.Extensions.{Extensions}
use Rattle.cedar_diagnosis.specs.Diagnosis.{IsTold, NamesOne}
use Rattle.cedar_diagnosis.specs.Kinds.{Kind, TellsTogether, kind_of}
use Rattle.cedar_schema_semantics.proofs.OccurrenceLemmas.{Twice-append}
use Rattle.cedar_schema_semantics.specs.Words.{Bag, Fault, IsFault, action_attributes, action_not_defined, external_below_enumerated, type_not_defined, undeclared_entity_types}

-- of one kind all faults of the bag are told, each once, and nothing else is
pub record TellsKind (bag : Bag) (extensions : Extensions) (kind : Kind) (told : List Fault) : Type 0 where
  pub of_kind : (each : Fault) → Contains told each → kind_of each ≡ kind
  pub each : (each : Fault) → Contains told each → IsFault bag extensions each
  pub one : (each : Fault) → Contains told each → NamesOne each
  pub once : (each : Fault) → ¬ Twice told each
  pub all : (each : Fault) → kind_of each ≡ kind → IsFault bag extensions each → IsTold told each

-- after what was told before, the faults of the kind are told
abbrev pub TellsAlso : Bag → Extensions → Kind → List Fault → List Fault → Type 0
TellsAlso bag extensions kind before after =
    (more : List Fault) × (after ≡ before ++ more) × TellsKind bag extensions kind more

-- what is told stays told where more is
pub told_still : (told others : List Fault) → ((fault : Fault) → Contains told fault → Contains others fault) → (fault : Fault)
    → IsTold told fault → IsTold others fault
told_still told others into (action_attributes ids) is = λ id among. into (action_attributes (id ∷ [])) (is id among)
told_still told others into (undeclared_entity_types names) is = λ name among. into (undeclared_entity_types (name ∷ [])) (is name among)
told_still told others into (type_not_defined references) is = λ reference among. into (type_not_defined (reference ∷ [])) (is reference among)
told_still told others into (action_not_defined actions) is = λ action among. into (action_not_defined (action ∷ [])) (is action among)
told_still told others into (external_below_enumerated lower upper) is =
    ((is.0.0, into (external_below_enumerated lower is.0.0) is.0.1), (is.1.0, into (external_below_enumerated is.1.0 upper) is.1.1))
told_still told others into fault is = into fault is

module _ (bag : Bag) (extensions : Extensions) where
  -- nothing is told of no kinds
  pub together_none : (before : List Fault) → TellsTogether bag extensions [] before before
  together_none before = (
    [],
    sym (append-nil before),
    record {
      of_kinds = λ fault among. absurd (Contains-none fault among);
      each = λ fault among. absurd (Contains-none fault among);
      one = λ fault among. absurd (Contains-none fault among);
      once = λ fault twice. twice;
      all = λ fault among is. absurd (Contains-none (kind_of fault) among);
    },
  )

  -- kinds that are told after others, none of which is one of them
  pub together_both : (kinds others : List Kind) (before middle after : List Fault)
      → AllByRecursion (λ other. AllByRecursion (λ kind. ¬ (kind ≡ other)) kinds) others → TellsTogether bag extensions kinds before middle
      → TellsTogether bag extensions others middle after → TellsTogether bag extensions (kinds ++ others) before after
  together_both kinds others before middle after apart first second =
      let front = first.0 in
      let back = second.0 in (
        front ++ back,
        second.1 ∙ (ap (λ each. each ++ back) first.1 ∙ append_assoc before front back),
        record {
          of_kinds = λ fault among. elim (Contains-append_cases front back fault among) [
            | inl here ↦ Contains-append_left kinds others (kind_of fault) (first.2.of_kinds fault here)
            | inr there ↦ Contains-append_right kinds others (kind_of fault) (second.2.of_kinds fault there)
          ];
          each = λ fault among. elim (Contains-append_cases front back fault among) [
            | inl here ↦ first.2.each fault here
            | inr there ↦ second.2.each fault there
          ];
          one = λ fault among. elim (Contains-append_cases front back fault among) [
            | inl here ↦ first.2.one fault here
            | inr there ↦ second.2.one fault there
          ];
          once = λ fault twice. elim (Twice-append front back fault twice) [
            | inl here ↦ first.2.once fault here
            | inr (inl there) ↦ second.2.once fault there
            | inr (inr both) ↦
                let other = second.2.of_kinds fault both.1 in
                let kind = first.2.of_kinds fault both.0 in
                AllByRecursion-at (λ each. ¬ (each ≡ kind_of fault)) kinds (kind_of fault)
                (AllByRecursion-at (λ each. AllByRecursion (λ kind. ¬ (kind ≡ each)) kinds) others (kind_of fault) apart other) kind refl
          ];
          all = λ fault among is. elim (Contains-append_cases kinds others (kind_of fault) among) [
            | inl here ↦ told_still front (front ++ back) (Contains-append_left front back) fault (first.2.all fault here is)
            | inr there ↦ told_still back (front ++ back) (Contains-append_right front back) fault (second.2.all fault there is)
          ];
        },
      )

  -- one kind that is told
  pub together_one : (kind : Kind) (before after : List Fault) → TellsAlso bag extensions kind before after
      → TellsTogether bag extensions (kind ∷ []) before after
  together_one kind before after tells = (
    tells.0,
    tells.1,
    record {
      of_kinds = λ fault among. Contains-cons kind [] (kind_of fault) (inl (sym (tells.2.of_kind fault among)));
      each = tells.2.each;
      one = tells.2.one;
      once = tells.2.once;
      all = λ fault among is. tells.2.all fault (sym (Contains-single kind (kind_of fault) among)) is;
    },
  )

  -- one kind that is told after others
  pub together_then : (kinds : List Kind) (last : Kind) (before middle after : List Fault) → AllByRecursion (λ kind. ¬ (kind ≡ last)) kinds
      → TellsTogether bag extensions kinds before middle → TellsAlso bag extensions last middle after
      → TellsTogether bag extensions (kinds ++ last ∷ []) before after
  together_then kinds last before middle after apart first second =
      together_both kinds (last ∷ []) before middle after (apart, tt) first (together_one last middle after second)
