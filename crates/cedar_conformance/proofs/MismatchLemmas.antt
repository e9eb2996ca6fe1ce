-- Faults of values that are held against types.
use Rattle.std.proofs.Common.{◌≡◌, refl, sym, ap, ℕ, zero, suc, Bool, List, [], ◌∷◌, Option, Some, None, length, get_or, drop, ◌<◌, ◌≤◌, ◌+◌, arith, inr}
use Rattle.std.proofs.Math.ListN.{drop_of_length-le}
use Rattle.cedar_ast.proofs.TreeLemmas.{drop-at}
use Rattle.cedar_ast.specs.Words.{EachTree, Entries, EntryFits, Gives, NamesListed, PlainName, Text, Tree, Trees, call_value, entry_at, entry_names, map_value, set_value, tree_of, trees_of}
use Rattle.cedar_ast.specs.declared.extension.Extensions.{Extensions}
use Rattle.cedar_ast.specs.declared.value.RestrictedExpr.{RestrictedExpr}
use Rattle.cedar_conformance.specs.Mismatch.{HaveParts, IsFieldsAnswer, IsMismatch, IsTypeAnswer, IsTypeFault, tree_at}
use Rattle.cedar_conformance.specs.Plain.{PlainFault, PlainKind, attribute_step, element_step, under_step, unknown_function}
use Rattle.cedar_type_rules.proofs.SubtypeLaws.{FieldsWithin}
use Rattle.cedar_type_rules.specs.Words.{Fields, Has, HasField, HasFieldsBy, Meets, Ty, end, extension_of, field, field_names, is_open, record_of, set_of}
use Rattle.cedar_type_rules.specs.declared.open_tag.OpenTag.{OpenTag}

-- the value at an index of some values is what the expression there stands for
pub tree_at-index : (values : List RestrictedExpr) (i : ℕ) (x : RestrictedExpr) → i < length values → x ≡ get_or values i x
    → tree_at i (trees_of values) ≡ Some (tree_of x)
tree_at-index [] i x below is = absurd (omega (arith, below))
tree_at-index (first ∷ rest) zero x below is = ap (λ y. Some (tree_of y)) (sym is)
tree_at-index (first ∷ rest) (suc i) x below is = tree_at-index rest i x (omega (arith, below)) is

module _ (extensions : Extensions) where
  -- what is wrong with a value itself is a fault of it
  pub fault_here : (value : Tree) (ty : Ty) (kind : PlainKind) → IsMismatch extensions value ty kind
      → IsTypeFault extensions value ty (record { steps = []; kind = kind })
  fault_here value ty kind mismatch =
      record { part = value; wanted = ty; leads = refl; wants = refl; mismatch = mismatch }

  -- a fault of an element is one of the set
  pub fault_of_element : (values : Trees) (ty : Ty) (index : ℕ) (value : Tree) (fault : PlainFault)
      → tree_at index values ≡ Some value → IsTypeFault extensions value ty fault
      → IsTypeFault extensions (set_value values) (set_of ty) (under_step (element_step index) fault)
  fault_of_element values ty index value fault stands it = record {
    part = it.part;
    wanted = it.wanted;
    leads = (value, stands, it.leads);
    wants = it.wants;
    mismatch = it.mismatch;
  }

  -- a fault of an attribute's value is one of the record
  pub fault_of_attribute : (values : Entries) (fields : Fields) (openness : OpenTag) (name : Text) (required : Bool) (ty : Ty)
      (value : Tree) (fault : PlainFault) → entry_at name values ≡ Some value → HasField fields name required ty
      → IsTypeFault extensions value ty fault
      → IsTypeFault extensions (map_value values) (record_of fields openness) (under_step (attribute_step name) fault)
  fault_of_attribute values fields openness name required ty value fault stands has it = record {
    part = it.part;
    wanted = it.wanted;
    leads = (value, stands, it.leads);
    wants = (required, ty, has, it.wants);
    mismatch = it.mismatch;
  }

  -- where a value isn't gone into, it meets an unknown function only by calling it
  pub unknown_call : (value : Tree) (ty : Ty) (unknown : PlainName) → ¬ HaveParts value ty → Meets extensions unknown value ty
      → IsMismatch extensions value ty (unknown_function unknown)
  unknown_call (set_value values) (set_of ty) unknown none meets = absurd (none tt)
  unknown_call (map_value values) (record_of fields openness) unknown none meets = absurd (none tt)
  unknown_call (call_value function args) (extension_of name) unknown none meets = meets
  unknown_call value ty unknown none meets = elim meets [ ]

  -- a walk over the attributes of a record: those that are left decide about all
  pub record FieldsSoFar (values : Entries) (all left : Fields) : Type 0 where
    pub before : HasFieldsBy (Gives extensions) values left → HasFieldsBy (Gives extensions) values all
    pub within : FieldsWithin left all

  module _ (values : Entries) (all : Fields) where
    -- at first all are left
    pub fields_start : FieldsSoFar values all all
    fields_start = record { before = λ has. has; within = λ n r t has. has }

    -- where none is left, all are as they have to be
    pub fields_none : (left : Fields) → left ≡ end → FieldsSoFar values all left → HasFieldsBy (Gives extensions) values all
    fields_none left nothing so_far = let done = rw nothing at so_far in done.before tt

    -- past one that is as it has to be the others decide
    pub fields_next : (name : Text) (required : Bool) (ty : Ty) (rest : Fields) → FieldsSoFar values all (field name required ty rest)
        → EntryFits (λ value. Has extensions value ty) required (entry_at name values) → FieldsSoFar values all rest
    fields_next name required ty rest so_far fits = record {
      before = λ others. so_far.before (fits, others);
      within = λ n r t has. so_far.within n r t (inr has);
    }

-- a walk over the elements of a set: those from an index on decide about all
abbrev pub ElementsSoFar : Extensions → Ty → List RestrictedExpr → ℕ → Type 0
ElementsSoFar extensions ty values index =
    EachTree (λ value. Has extensions value ty) (trees_of (drop index values))
    → EachTree (λ value. Has extensions value ty) (trees_of values)

-- past an element that has the type the others decide
pub elements_next : (extensions : Extensions) (ty : Ty) (values : List RestrictedExpr) (i : ℕ) (x : RestrictedExpr) → i < length values
    → x ≡ get_or values i x → Has extensions (tree_of x) ty → ElementsSoFar extensions ty values i
    → ElementsSoFar extensions ty values (i + 1)
elements_next extensions ty values i x below is has so_far =
    λ others. so_far (rw (drop-at values i x below is) (has, others))

-- where no index is left, all have it
pub elements_none : (extensions : Extensions) (ty : Ty) (values : List RestrictedExpr) (i : ℕ) → length values ≤ i
    → ElementsSoFar extensions ty values i → EachTree (λ value. Has extensions value ty) (trees_of values)
elements_none extensions ty values i past so_far = so_far (rw (drop_of_length-le values past) tt)

-- where no name is one too many, the listed attributes decide about the record
pub record_answer : (extensions : Extensions) (values : Entries) (fields : Fields) (openness : OpenTag) (found : Option PlainFault)
    → NamesListed (is_open openness) (entry_names values) (field_names fields) → IsFieldsAnswer extensions values fields found
    → IsTypeAnswer extensions (map_value values) (record_of fields openness) found
record_answer extensions values fields openness None listed answer = (listed, answer)
record_answer extensions values fields openness (Some fault) listed answer = answer openness
