-- What is at fault hasn't the type.
use Rattle.std.proofs.Common.{◌≡◌, ◌⊎◌, sym, subst, ◌∙◌, ℕ, zero, suc, true, List, [], ◌∷◌, Some, None, inl}
use Rattle.cedar_ast.specs.Words.{EachTree, Entries, Gives, IsUnknown, PlainName, Tree, Trees, call_value, entry_at, map_value, no_tree, number_value, set_value, text_value, tree, truth_value, uid_value}
use Rattle.cedar_ast.specs.declared.extension.Extensions.{Extensions}
use Rattle.cedar_conformance.specs.Mismatch.{IsMismatch, IsTypeFault, IsWantedAt, LeadsTo, tree_at}
use Rattle.cedar_conformance.specs.Plain.{PlainFault, PlainKind, PlainStep, attribute_step, element_step, missing_attribute, unexpected_attribute, unknown_function, wrong_type}
use Rattle.cedar_type_rules.proofs.MemberLaws.{EachTree-weaker, EntryFits-weaker, HasFieldsBy-of}
use Rattle.cedar_type_rules.proofs.SampleValues.{some_fits}
use Rattle.cedar_type_rules.specs.Words.{Fields, Has, HasBy, HasFieldsBy, MayHave, Ty, any_set, end, extension_of, field, long, record_of, set_of, text, truth}

-- what holds of each value holds of that at an index
pub each_at : (P : Tree → Type 0) (values : Trees) (index : ℕ) (value : Tree) → tree_at index values ≡ Some value → EachTree P values → P value
each_at P no_tree index value stands each = absurd cc
each_at P (tree first rest) zero value stands each = let same : first ≡ value = cc in subst P same each.0
each_at P (tree first rest) (suc index) value stands each = each_at P rest index value stands each.1

-- at the end of steps a value has the type that is wanted there
pub has_wanted : (calls : PlainName → Trees → PlainName → Type 0) (steps : List PlainStep) (value : Tree) (ty : Ty) (part : Tree) (wanted : Ty)
    → LeadsTo steps value part → IsWantedAt steps ty wanted → HasBy calls value ty → HasBy calls part wanted
has_wanted calls [] value ty part wanted leads wants has = rw (← leads, ← wants) has
has_wanted calls (element_step index ∷ steps) (set_value values) (set_of ty) part wanted leads wants has =
    has_wanted calls steps leads.0 ty part wanted leads.2 wants
    (each_at (λ value. HasBy calls value ty) values index leads.0 leads.1 has)
has_wanted calls (attribute_step name ∷ steps) (map_value values) (record_of fields openness) part wanted leads wants has =
    let value = leads.0 in
    let ty = wants.1 in
    has_wanted calls steps value ty part wanted leads.2 wants.3
    (some_fits (λ value. HasBy calls value ty) wants.0 (entry_at name values) value leads.1
    (HasFieldsBy-of calls values fields name wants.0 ty has.1 wants.2))
has_wanted calls (element_step index ∷ steps) (set_value values) ty part wanted leads wants has = elim wants [ ]
has_wanted calls (attribute_step name ∷ steps) (map_value values) ty part wanted leads wants has = elim wants [ ]
has_wanted calls (element_step index ∷ steps) value ty part wanted leads wants has = elim leads [ ]
has_wanted calls (attribute_step name ∷ steps) value ty part wanted leads wants has = elim leads [ ]

module _ (extensions : Extensions) where
  mutual
    -- what has a type may have it
    pub may_have : (value : Tree) (ty : Ty) → Has extensions value ty → MayHave extensions value ty
    may_have (call_value function args) (extension_of name) has = inl has
    may_have (set_value values) (set_of ty) has =
        EachTree-weaker (λ value. Has extensions value ty) (λ value. MayHave extensions value ty) values
        (λ value of. may_have value ty of) has
    may_have (map_value values) (record_of fields openness) has = (has.0, may_have_fields values fields has.1)
    may_have (set_value values) any_set has = tt
    may_have (uid_value uid) ty has = has
    may_have (truth_value value) (truth known) has = has
    may_have (number_value value) long has = tt
    may_have (text_value value) text has = tt
    may_have value ty has = elim has [ ]

    may_have_fields : (values : Entries) (fields : Fields) → HasFieldsBy (Gives extensions) values fields
        → HasFieldsBy (λ function args name. Gives extensions function args name ⊎ IsUnknown extensions function) values fields
    may_have_fields values end has = tt
    may_have_fields values (field name required ty rest) has = (
      EntryFits-weaker (λ value. Has extensions value ty) (λ value. MayHave extensions value ty) required required (entry_at name values)
          (λ value of. may_have value ty of) (λ missing. missing) has.0,
      may_have_fields values rest has.1,
    )

  -- a part that isn't of the type wanted there hasn't it
  pub mismatch_lacks : (part : Tree) (wanted : Ty) (kind : PlainKind) → IsMismatch extensions part wanted kind → ¬ Has extensions part wanted
  mismatch_lacks part wanted (wrong_type ty) it has = it.2 (may_have part wanted has)
  mismatch_lacks (map_value values) (record_of fields openness) (missing_attribute name) it has =
      let ty = it.0.0 in
      let fits = HasFieldsBy-of (Gives extensions) values fields name true ty has.1 it.0.1 in
      let wrong = rw it.1 at fits in cc
  mismatch_lacks (map_value values) (record_of fields openness) (unexpected_attribute name) it has =
      it.2 ((rw it.1 at has.0) name it.0)
  mismatch_lacks (call_value function args) (extension_of name) (unknown_function unknown) it has =
      let known : Some has.0 ≡ None = sym has.1 ∙ (rw (← it.0) at it.1) in cc
  mismatch_lacks part wanted kind it has = elim it [ ]

  -- a value with a fault hasn't the type
  pub fault_lacks : (value : Tree) (ty : Ty) (fault : PlainFault) → IsTypeFault extensions value ty fault → ¬ Has extensions value ty
  fault_lacks value ty fault it has =
      mismatch_lacks it.part it.wanted fault.kind it.mismatch
      (has_wanted (Gives extensions) fault.steps value ty it.part it.wanted it.leads it.wants has)
