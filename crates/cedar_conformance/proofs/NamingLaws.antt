-- What names a uid that doesn't exist.
use Rattle.std.proofs.Common.{◌≡◌, refl, sym, subst, ℕ, zero, suc, List, [], ◌∷◌, Some, inl, inr, ◌∙◌}
use Rattle.cedar_ast.specs.Words.{Entries, PlainUid, Text, Tree, Trees, entry, entry_at, map_value, no_entry, no_tree, set_value, tree, uid_value}
use Rattle.cedar_conformance.specs.Mismatch.{LeadsTo, tree_at}
use Rattle.cedar_conformance.specs.Naming.{IsNamingFault}
use Rattle.cedar_conformance.specs.Plain.{PlainFault, PlainStep, attribute_step, element_step, no_such_choice, under_step}
use Rattle.cedar_entities.specs.Words.{EachNamesOnly, EntriesNameOnly, Exists, NamesOnly, NamesWhatExists}
use Rattle.cedar_schema_semantics.specs.PlainSchema.{PlainSchema}
use Rattle.cedar_type_rules.proofs.RecordAnswers.{decide_texts}
use Rattle.cedar_type_rules.proofs.SampleValues.{entry_here, entry_there}

-- the element at an index names only what all elements name
pub named_at : (Is : PlainUid → Type 0) (values : Trees) (index : ℕ) (value : Tree) → tree_at index values ≡ Some value
    → EachNamesOnly Is values → NamesOnly Is value
named_at Is no_tree index value stands each = absurd cc
named_at Is (tree first rest) zero value stands each = let same : first ≡ value = cc in subst (NamesOnly Is) same each.0
named_at Is (tree first rest) (suc index) value stands each = named_at Is rest index value stands each.1

-- the value under a name names only what all values of the record name
pub named_under : (Is : PlainUid → Type 0) (values : Entries) (name : Text) (value : Tree) → entry_at name values ≡ Some value
    → EntriesNameOnly Is values → NamesOnly Is value
named_under Is no_entry name value stands each = absurd cc
named_under Is (entry other first rest) name value stands each = elim (decide_texts name other) [
  | inl same ↦
      let found : Some first ≡ Some value = sym (entry_here name other first rest same) ∙ stands in
      let one : first ≡ value = cc in subst (NamesOnly Is) one each.0
  | inr differ ↦ named_under Is rest name value (sym (entry_there name other first rest differ) ∙ stands) each.1
]

-- the uid at the end of steps is one that the value names
pub named_part : (Is : PlainUid → Type 0) (steps : List PlainStep) (value : Tree) (uid : PlainUid) → LeadsTo steps value (uid_value uid)
    → NamesOnly Is value → Is uid
named_part Is [] value uid leads only = rw leads at only
named_part Is (element_step index ∷ steps) (set_value values) uid leads only =
    named_part Is steps leads.0 uid leads.2 (named_at Is values index leads.0 leads.1 only)
named_part Is (attribute_step name ∷ steps) (map_value values) uid leads only =
    named_part Is steps leads.0 uid leads.2 (named_under Is values name leads.0 leads.1 only)
named_part Is (element_step index ∷ steps) value uid leads only = elim leads [ ]
named_part Is (attribute_step name ∷ steps) value uid leads only = elim leads [ ]

module _ (schema : PlainSchema) where
  -- a value with such a fault doesn't name what exists
  pub naming_lacks : (value : Tree) (fault : PlainFault) → IsNamingFault schema value fault → ¬ NamesWhatExists schema value
  naming_lacks value fault it only = it.lost (named_part (Exists schema) fault.steps value it.uid it.leads only)

  -- a uid that doesn't exist is itself at fault
  pub naming_here : (uid : PlainUid) → ¬ Exists schema uid
      → IsNamingFault schema (uid_value uid) (record { steps = []; kind = no_such_choice uid })
  naming_here uid lost = record { uid = uid; kind = refl; leads = refl; lost = lost }

  -- a fault of an element is one of the set
  pub naming_of_element : (values : Trees) (index : ℕ) (value : Tree) (fault : PlainFault) → tree_at index values ≡ Some value
      → IsNamingFault schema value fault → IsNamingFault schema (set_value values) (under_step (element_step index) fault)
  naming_of_element values index value fault stands it =
      record { uid = it.uid; kind = it.kind; leads = (value, stands, it.leads); lost = it.lost }

  -- a fault of an attribute's value is one of the record
  pub naming_of_attribute : (values : Entries) (name : Text) (value : Tree) (fault : PlainFault) → entry_at name values ≡ Some value
      → IsNamingFault schema value fault → IsNamingFault schema (map_value values) (under_step (attribute_step name) fault)
  naming_of_attribute values name value fault stands it =
      record { uid = it.uid; kind = it.kind; leads = (value, stands, it.leads); lost = it.lost }
