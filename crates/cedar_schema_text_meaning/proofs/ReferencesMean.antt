-- A reference that is written without a flaw means as much as the one that reads back of it.
use Rattle.std.proofs.Common.{◌≡◌, Bool, true, false, List, Option, None, Some, cond, ap, sym, subst, ◌∙◌, refl, inl, inr, Contains}
use Rattle.std.specs.Option.{option_or}
use Rattle.cedar_ast.specs.Words.{PlainName}
use Rattle.cedar_ast.specs.declared.extension.Extensions.{Extensions}
use Rattle.cedar_schema_ast.specs.Words.{Declaration, Reference, possible_names, reference_to}
use Rattle.cedar_schema_ast.specs.declared.json_schema.reference_type.ReferenceType.{ReferenceType}
use Rattle.cedar_schema_semantics.proofs.ResolutionLemmas.{first_defined}
use Rattle.cedar_schema_semantics.specs.Words.{Bag, Defined, IsDefined, IsFirst, Names, definitions, names_of}
use Rattle.cedar_schema_text_meaning.proofs.FirstDeclared.{common_means, entity_first, undeclared_written, written_undefined}
use Rattle.cedar_schema_text_meaning.proofs.TextLikeness.{MeansAsMuch}
use Rattle.cedar_schema_text_meaning.specs.TextForm.{first_by, of_kind}
use Rattle.cedar_schema_text_meaning.specs.TextMeaning.{HasKnownExtensions}
use Rattle.cedar_schema_text_meaning.specs.WritableBag.{IsUnreserved}
use Rattle.cedar_schema_text_writer.proofs.Reserved.{last_possible}
use Rattle.cedar_schema_text_writer.specs.Flaws.{common_flaw, context_kind_flaw, entity_flaw, kind_flaw, reference_flaw}
use Rattle.cedar_schema_text_writer.specs.Names.{last_name, may_be_built_in}
use Rattle.cedar_schema_text_writer.specs.declared.fault.Part.{Part}
use Rattle.cedar_schema_text_writer.specs.declared.scope.Standing.{Standing}
use Rattle.cedar_schema_ast.specs.declared.json_schema.reference_type.ReferenceType.TheVariants as refers
use Rattle.cedar_schema_text_writer.specs.declared.fault.Part.TheVariants as part
use Rattle.cedar_schema_text_writer.specs.declared.scope.Standing.TheVariants as standing

-- of two options neither is there where the first that is isn't
pub neither_there : {A : Type 0} (one other : Option A) → option_or one other ≡ None → (one ≡ None) × (other ≡ None)
neither_there None other none = (refl, none)
neither_there (Some it) other none = absurd (cc)

-- where nothing is found, the test failed
pub nothing_found : {A : Type 0} (test : Bool) (it : A) → cond test (Some it) None ≡ None → test ≡ false
nothing_found true it none = absurd (cc)
nothing_found false it none = refl

-- a reference means as much as itself
means_itself : (own : Names) (reference : Reference) → MeansAsMuch own own reference reference
means_itself own reference = record { resolves = λ name. (λ first. first, λ first. first); kinds = λ name first. inl refl }

module _ (bag : Bag) (extensions : Extensions) (free : (it : Declaration) → Contains bag it → IsUnreserved it.namespace)
    (known : HasKnownExtensions extensions) where
  -- what the bag defines
  abbrev defines : Defined
  defines = definitions bag extensions

  -- a reference that may mean as much, of two kinds
  abbrev KindsMean : List PlainName → ReferenceType → ReferenceType → Type 0
  KindsMean possibilities kind other =
      MeansAsMuch (names_of defines) (names_of defines) (record { possibilities = possibilities; kind = kind })
      (record { possibilities = possibilities; kind = other })

  -- a reference to a common type without a flaw isn't to an entity type
  no_entity : (in_part : Part) (s : Standing) → common_flaw in_part s ≡ None → ¬ (s ≡ standing.Entity)
  no_entity in_part standing.Entity none is = absurd (cc)
  no_entity in_part standing.Common none is = absurd (cc)
  no_entity in_part standing.Undeclared none is = absurd (cc)

  -- a reference to an entity type without a flaw means as much as one to any type
  entity_means : (namespace : Option PlainName) → IsUnreserved namespace → (in_part : Part) (name : PlainName)
      → entity_flaw in_part (last_name (possible_names namespace name)) (first_by bag (possible_names namespace name)) ≡ None
      → KindsMean (possible_names namespace name) refers.Entity refers.CommonOrEntity
  entity_means namespace unreserved in_part name flawless = by (first_by bag (possible_names namespace name)) refl flawless where
    by : (s : Standing) → first_by bag (possible_names namespace name) ≡ s → entity_flaw in_part (last_name (possible_names namespace name)) s ≡ None
        → KindsMean (possible_names namespace name) refers.Entity refers.CommonOrEntity
    by standing.Common is none = absurd (cc)
    by standing.Entity is none =
        let one = entity_first bag extensions free known namespace unreserved name is in
        record {
          resolves = λ n. (
            λ found. (one.2 refers.CommonOrEntity tt n).1 ((one.2 refers.Entity tt n).0 found),
            λ found. (one.2 refers.Entity tt n).1 ((one.2 refers.CommonOrEntity tt n).0 found),
          );
          kinds = λ n found. inr (inr (tt, tt, subst (λ each. ¬ Contains (names_of defines).common each) ((one.2 refers.Entity tt n).0 found) one.1));
        }
    by standing.Undeclared is none =
        let may_not : may_be_built_in name ≡ false =
        ap may_be_built_in (sym (last_possible namespace name)) ∙ nothing_found (may_be_built_in (last_name (possible_names namespace name))) _ none in
        let nothing = undeclared_written bag extensions free known namespace unreserved name is in
        let undefined = nothing.1 (written_undefined bag extensions free known name may_not nothing.0.1) in
        let none_first : (kind : ReferenceType) (n : PlainName) → ¬ IsFirst (IsDefined (names_of defines) kind) (possible_names namespace name) n =
        λ kind n found.
        (let there = first_defined (names_of defines) kind (possible_names namespace name) n found in
        elim there.1 [ inl common ↦ (undefined n there.0).0 common.1 | inr entity ↦ (undefined n there.0).1 entity.1 ]) in
        record {
          resolves = λ n. (λ found. absurd (none_first refers.Entity n found), λ found. absurd (none_first refers.CommonOrEntity n found));
          kinds = λ n found. absurd (none_first refers.Entity n found);
        }

  -- a reference in a type without a flaw means as much as one to any type
  pub reference_means : (namespace : Option PlainName) → IsUnreserved namespace → (in_part : Part) (reference : Reference) (name : PlainName)
      → reference ≡ reference_to namespace reference.kind name → reference_flaw (first_by bag) in_part reference ≡ None
      → MeansAsMuch (names_of defines) (names_of defines) reference (of_kind refers.CommonOrEntity reference)
  reference_means namespace unreserved in_part reference name is flawless =
      by reference.kind reference.possibilities (ap (λ (each : Reference). each.possibilities) is) flawless
    where
      by : (kind : ReferenceType) (xs : List PlainName) → xs ≡ possible_names namespace name → kind_flaw in_part kind (last_name xs) (first_by bag xs) ≡ None
          → KindsMean xs kind refers.CommonOrEntity
      by refers.Common xs same none =
          common_means bag extensions free known xs refers.Common refers.CommonOrEntity tt tt (no_entity in_part (first_by bag xs) none)
      by refers.Entity xs same none =
          subst (λ each. KindsMean each refers.Entity refers.CommonOrEntity) (sym same)
          (entity_means namespace unreserved in_part name (subst (λ each. entity_flaw in_part (last_name each) (first_by bag each) ≡ None) same none))
      by refers.CommonOrEntity xs same none = means_itself (names_of defines) (record { possibilities = xs; kind = refers.CommonOrEntity })

  -- a context that is a name without a flaw means as much as one to a common type
  pub context_means : (reference : Reference) → context_kind_flaw reference.kind (first_by bag reference.possibilities) ≡ None
      → MeansAsMuch (names_of defines) (names_of defines) reference (of_kind refers.Common reference)
  context_means reference flawless = by reference.kind reference.possibilities flawless where
    by : (kind : ReferenceType) (xs : List PlainName) → context_kind_flaw kind (first_by bag xs) ≡ None → KindsMean xs kind refers.Common
    by refers.Common xs none = means_itself (names_of defines) (record { possibilities = xs; kind = refers.Common })
    by refers.Entity xs none = absurd (cc)
    by refers.CommonOrEntity xs none =
        common_means bag extensions free known xs refers.CommonOrEntity refers.Common tt tt (no_entity part.Context (first_by bag xs) none)
