-- How deep and how large types are.
use Rattle.std.proofs.Common.{◌≤◌, arith}
use Rattle.cedar_type_rules.specs.Ty.{Fields, Ty, any_entity, any_set, end, extension_of, field, long, never, record_of, set_of, text, truth, union_of}
use Rattle.cedar_written_out.specs.Words.{fields_depth, fields_size, type_depth, type_size}

-- a type is one level deep at least
pub depth_least : (ty : Ty) → 1 ≤ type_depth ty
depth_least never = omega arith
depth_least (truth value) = omega arith
depth_least long = omega arith
depth_least text = omega arith
depth_least any_entity = omega arith
depth_least (union_of names) = omega arith
depth_least any_set = omega arith
depth_least (set_of element) = omega arith
depth_least (record_of fields openness) = omega arith
depth_least (extension_of name) = omega arith

mutual
  -- and no deeper than it has types
  pub depth_greatest : (ty : Ty) → type_depth ty ≤ type_size ty
  depth_greatest never = omega arith
  depth_greatest (truth value) = omega arith
  depth_greatest long = omega arith
  depth_greatest text = omega arith
  depth_greatest any_entity = omega arith
  depth_greatest (union_of names) = omega arith
  depth_greatest any_set = omega arith
  depth_greatest (set_of element) = omega (arith, depth_greatest element)
  depth_greatest (record_of fields openness) = omega (arith, fields_greatest fields)
  depth_greatest (extension_of name) = omega arith

  -- the same of attributes
  fields_greatest : (fields : Fields) → fields_depth fields ≤ fields_size fields
  fields_greatest end = omega arith
  fields_greatest (field name required ty rest) = omega (arith, depth_greatest ty, fields_greatest rest)
