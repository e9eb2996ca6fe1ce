-- Where every uid exists, there are some of each entity type.
use Rattle.std.proofs.Common.{refl, []}
use Rattle.cedar_ast.proofs.ValueLemmas.{IsText-nil}
use Rattle.cedar_counterexample.specs.Words.{Fields, FieldsHaveUids, HasUidsIn, IsWellFormed, Ty, any_entity, any_set, end, extension_of, field, long, never, record_of, set_of, text, truth, union_of}
use Rattle.cedar_type_rules.specs.Words.{AreWellFormed}

mutual
  -- of each that a type names
  pub uids_exist : (ty : Ty) → IsWellFormed ty → HasUidsIn (λ uid. Unit {0}) ty
  uids_exist (union_of names) formed = λ name among. (record { ty = name; eid = [] }, refl, (formed.2 name among, IsText-nil), tt)
  uids_exist (set_of ty) formed = uids_exist ty formed
  uids_exist (record_of fields openness) formed = uids_exist_of fields formed.1
  uids_exist never formed = tt
  uids_exist (truth known) formed = tt
  uids_exist long formed = tt
  uids_exist text formed = tt
  uids_exist any_entity formed = tt
  uids_exist any_set formed = tt
  uids_exist (extension_of name) formed = tt

  -- and of each that the types of attributes name
  pub uids_exist_of : (fields : Fields) → AreWellFormed fields → FieldsHaveUids (λ uid. Unit {0}) fields
  uids_exist_of end formed = tt
  uids_exist_of (field name required ty rest) formed = (uids_exist ty formed.0, uids_exist_of rest formed.1)
