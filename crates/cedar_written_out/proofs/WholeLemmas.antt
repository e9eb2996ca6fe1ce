-- What is known of all that a bag defines.
use Rattle.std.proofs.Common.{◌≡◌, ◌++◌, ℕ, List, take, drop, length, ap, sym, subst, ◌∙◌, refl, append_assoc}
use Rattle.std.proofs.Math.Seq.{take-append_seam}
use Rattle.std.proofs.lemmas.List.{map-append, take-append-drop}
use Rattle.cedar_ast.specs.Words.{TypeNamesFit, extension_types}
use Rattle.cedar_ast.specs.declared.internal_name.InternalName.{InternalName}
use Rattle.cedar_elaboration.proofs.AliasLemmas.{defined_twice}
use Rattle.cedar_schema_ast.specs.declared.json_schema.type_of.Type.{«Type»}
use Rattle.cedar_written_out.specs.Words.{AreFigures, AreIndices, Bag, DefinesJust, Expr, Extensions, Fault, HoldsJust, IsFault, IsKnown, KnowsAll, Names, PlainName, RawName, Twice, Written, aliases, built_ins, declared_common, defined_names, definitions, duplicate_common_type, held_names, indexed_names, item_names, raw_reference, written_common}
use Rattle.cedar_written_out.specs.declared.gathering.Known.{Known}
use Rattle.cedar_written_out.specs.declared.measuring.FigureScope.{FigureScope}

-- common types as they are written
abbrev pub Types : Type 0
Types = List (InternalName × Written («Type» RawName))

module _ (bag : Bag) (extensions : Extensions) (known : Known) (types : Types) (is : IsKnown bag extensions known)
    (are : types ≡ known.declarations.common_types.items ++ known.built_in.items) where
  -- the common types that are defined are those that are declared, and after them the built-in ones
  -- and the aliases
  pub all_common : written_common RawName raw_reference types ≡ (definitions bag extensions).common
  all_common =
      ap (written_common RawName raw_reference) are
      ∙ (map-append _ known.declarations.common_types.items known.built_in.items
      ∙ ((λ i. is.declarations.common i ++ is.built_in i)
      ∙ sym (append_assoc (declared_common bag) (built_ins extensions) (aliases bag extensions))))

  -- so what is defined is just what is known
  pub defines_just : ((name : PlainName) → ¬ Twice (item_names (written_common RawName raw_reference types)) name)
      → DefinesJust (written_common RawName raw_reference types) (held_names known.defs) (definitions bag extensions)
  defines_just once = record { common = sym all_common; names = is.names; once = once }

  -- and all is known
  pub knows_all : (scope : FigureScope) → ((name : PlainName) → ¬ Twice (item_names (written_common RawName raw_reference types)) name)
      → held_names scope.defs.now ≡ held_names known.defs
      → AreIndices (item_names (written_common RawName raw_reference types)) (indexed_names scope.indices.now)
      → AreFigures (definitions bag extensions) scope.figures.now → KnowsAll (definitions bag extensions) scope
  knows_all scope once same indices figures =
      let Once : List (PlainName × Expr) → Type 0 = λ items. (name : PlainName) → ¬ Twice (item_names items) name in
      let Indexed : List (PlainName × Expr) → Type 0 = λ items. AreIndices (item_names items) (indexed_names scope.indices.now) in
      let MaybeShared : Names → Type 0 = λ held. HoldsJust held (defined_names bag extensions) in
      record {
        defines = record {
          common = refl;
          names = subst MaybeShared (sym same) is.names;
          once = subst Once all_common once;
        };
        indices = subst Indexed all_common indices;
        figures = figures;
      }

  -- those that are declared stand first
  pub declared_first : (count : ℕ) → count ≡ length known.declarations.common_types.items
      → written_common RawName raw_reference (take count types) ≡ declared_common bag
  declared_first count all =
      ap (written_common RawName raw_reference) ((λ i. take (all i) (are i)) ∙ take-append_seam known.declarations.common_types.items known.built_in.items)
      ∙ is.declarations.common

  -- and others after them
  pub others_after : (count : ℕ) → (definitions bag extensions).common
      ≡ written_common RawName raw_reference (take count types) ++ written_common RawName raw_reference (drop count types)
  others_after count =
      sym all_common
      ∙ (ap (written_common RawName raw_reference) (sym (take-append-drop count types))
      ∙ map-append _ (take count types) (drop count types))

  -- a name that stands twice among them is a fault of the bag
  pub fault_of_twice : TypeNamesFit (extension_types extensions) → (fault : Fault)
      → ((name : PlainName) × (fault ≡ duplicate_common_type name)
      × Twice (item_names (written_common RawName raw_reference types)) name)
      → IsFault bag extensions fault
  fault_of_twice fit fault twice =
      let P : List (PlainName × Expr) → Type 0 = λ items. Twice (item_names items) twice.0 in
      let F : Fault → Type 0 = IsFault bag extensions in
      subst F (sym twice.1) (defined_twice bag extensions fit twice.0 (subst P all_common twice.2))
