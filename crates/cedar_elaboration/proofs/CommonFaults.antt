-- What common types that are elaborated say of the bag, and what it says that they are refused.
use Rattle.std.proofs.Common.{◌≡◌, ◌⊎◌, List, ◌++◌, map, sym, subst, ◌∙◌, refl, append_assoc, inl, inr, Contains}
use Rattle.std.proofs.lemmas.List.{map-append}
use Rattle.std.proofs.lemmas.List.Elements.{Contains-append_left}
use Rattle.cedar_ast.proofs.Basics.{Contains-image}
use Rattle.cedar_ast.proofs.Chains.{refined}
use Rattle.cedar_elaboration.proofs.AliasLemmas.{built_in_closed, declared_or_built_in, defined_twice}
use Rattle.cedar_elaboration.specs.Words.{AreElaborated, AreSound, AreTypesOf, Bag, Chain, CommonTypesAreSound, Defined, Expr, Extensions, Fault, HoldsElaborated, IsCommonFault, IsCounted, IsFault, Names, NamesItems, PlainName, RefersToCommon, SameItems, Twice, Ty, aliases, built_ins, common_type_cycle, declared_common, defined_over, definitions, duplicate_common_type, extension_types, item_names, one, open_record, out_of_memory, reserved_name, type_not_defined, unknown_extension_type}
use Rattle.cedar_schema_laws.proofs.MentionLemmas.{known_built_in}
use Rattle.cedar_schema_semantics.proofs.BuiltInLemmas.{refers_declared}
use Rattle.cedar_schema_semantics.proofs.DeclarationLemmas.{common_declaration}
use Rattle.cedar_schema_semantics.proofs.DefinedLemmas.{SameDefined, SameDefined-sym, resolves_there, unresolved_there, elaborated_there}
use Rattle.cedar_schema_semantics.proofs.OccurrenceLemmas.{Twice-left}

-- a step from a common type to one that it refers to is one where the same is defined
refers_there : (defined other : Defined) → SameDefined defined other → (name to : PlainName)
    → RefersToCommon defined name to → RefersToCommon other name to
refers_there defined other same name to (definition, reference, body, stands, refers, resolves, is_common) = (
  definition,
  reference,
  body,
  same.common (name, definition) stands,
  refers,
  resolves_there defined other same reference to resolves,
  (is_common.0, same.common (to, body) is_common.1),
)

-- a common type that is declared counts
common_counts : (bag : Bag) (it : PlainName × Expr) → Contains (declared_common bag) it → IsCounted bag it.1
common_counts bag it among =
    let found = common_declaration bag it.0 it.1 among in
    (found.0, found.1, rw found.2)

module _ (bag : Bag) (extensions : Extensions) (declared built_in : List (PlainName × Expr))
    (names : Names) (are : AreTypesOf bag extensions declared built_in names)
    (types : List (PlainName × Expr)) (all : types ≡ declared ++ built_in) where
  -- the types are those that the bag defines
  all_defined : types ≡ (definitions bag extensions).common
  all_defined =
      all ∙ ((λ i. are.common i ++ are.built_in i)
      ∙ sym (append_assoc (declared_common bag) (built_ins extensions) (aliases bag extensions)))

  -- their names are those that are defined
  pub named : NamesItems names types
  named name =
      let Same : List (PlainName × Expr) → Type 0 = λ each. NamesItems names each in
      subst Same (sym all_defined) are.held.common name

  -- they define the same as the bag
  same_defined : SameDefined (defined_over types names) (definitions bag extensions)
  same_defined =
      record {
        common = λ it among. rw all_defined at among;
        common_back = λ it among. rw all_defined among;
        entities = λ name. (are.held.entities name).0;
        entities_back = λ name. (are.held.entities name).1;
      }

  -- what is refused of them is a fault of the bag
  pub common_fault : (fault : Fault) → IsCommonFault (defined_over types names) (extension_types extensions) fault
      → (fault ≡ out_of_memory) ⊎ IsFault bag extensions fault
  common_fault (duplicate_common_type name) twice =
      inr (defined_twice bag extensions are.fit name (rw all_defined at twice))
  common_fault (common_type_cycle name) cycle =
      inr (refined (λ from to step. one (refers_there _ _ same_defined from to step)) cycle)
  common_fault out_of_memory fault = inl refl
  common_fault open_record (it, stands, is_open) =
      elim (declared_or_built_in bag extensions it (same_defined.common it stands)) [
        | inl declared ↦ inr (it.1, common_counts bag it declared, is_open)
        | inr built_in ↦ absurd (built_in_closed extensions built_in.0 it.1 built_in.1 is_open)
      ]
  common_fault (type_not_defined references) (it, stands, (some, each)) =
      inr (
        some,
        λ reference among.
            let unresolved = each reference among in (
              inl (
                it.1,
                common_counts bag it (refers_declared bag extensions it.0 it.1 reference
                    (same_defined.common it stands) unresolved.0),
                unresolved.0,
              ),
              unresolved_there _ _ same_defined reference unresolved.1,
            ),
      )
  common_fault (unknown_extension_type name) (it, stands, (mentions, unqualified, unknown)) =
      elim (declared_or_built_in bag extensions it (same_defined.common it stands)) [
        | inl declared ↦ inr (it.1, common_counts bag it declared, mentions, unqualified, unknown)
        | inr built_in ↦
            let IsExtensionType : PlainName → Type 0 = Contains (extension_types extensions) in
            absurd (unknown (subst IsExtensionType (λ i. record { base = name.base; path = sym unqualified i })
            (known_built_in extensions are.fit built_in.0 it.1 built_in.1 name.base mentions)))
      ]
  common_fault (reserved_name name) (it, stands, (reference, refers, reserved)) =
      absurd (are.unreserved name (same_defined.entities name reserved.is_entity.1) reserved.reserved)
  common_fault _ fault = absurd fault.2

  -- what is sure of them is sure of the bag
  pub common_sound : ((name : PlainName) → ¬ Twice (item_names types) name)
      → ((name : PlainName) → ¬ Chain (RefersToCommon (defined_over types names)) name name)
      → AreSound (defined_over types names) (extension_types extensions)
      → CommonTypesAreSound bag extensions
  common_sound once no_cycle sound =
      let key = λ (it : PlainName × Expr). it.0 in
      let front = declared_common bag ++ built_ins extensions in
      let stands : (it : PlainName × Expr) → Contains (declared_common bag) it → Contains (definitions bag extensions).common it =
      λ it among. Contains-append_left front (aliases bag extensions) it
      (Contains-append_left (declared_common bag) (built_ins extensions) it among) in
      record {
        once = λ name twice.
            once name (rw (all_defined, map-append key front (aliases bag extensions))
            (Twice-left (map key front) (map key (aliases bag extensions)) name twice));
        no_cycle = λ name cycle. no_cycle name (refined (λ from to step. one
            (refers_there _ _ (SameDefined-sym _ _ same_defined) from to step)) cycle);
        closed = λ it among. (sound it (same_defined.common_back it (stands it among))).closed;
        known = λ it among. (sound it (same_defined.common_back it (stands it among))).known;
        resolves = λ it among reference refers.
            let found = (sound it (same_defined.common_back it (stands it among))).resolved reference refers in
            (found.0, resolves_there _ _ same_defined reference found.0 found.1);
      }

  -- what they are elaborated as is what those of the bag are
  pub common_elaborated : (elaborated : List (PlainName × Ty))
      → SameItems (map (λ it. it.0) elaborated) (item_names types)
      → HoldsElaborated (defined_over types names) elaborated → AreElaborated bag extensions elaborated
  common_elaborated elaborated names holds =
      record {
        each = λ it among. (names it.0).1 (Contains-image (λ (each : PlainName × Expr). each.0) types it
            (same_defined.common_back it among));
        elaborated = λ name ty among.
            let found = holds name ty among in
            (found.0, same_defined.common (name, found.0) found.1, elaborated_there _ _ same_defined found.2);
      }
