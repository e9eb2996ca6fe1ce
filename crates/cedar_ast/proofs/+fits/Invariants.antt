use Rattle.std.proofs.Common.{◌↔◌, drop, map, string_bytes}
use Rattle.cedar_ast.proofs.+fits.Given as goal
use Rattle.cedar_ast.specs.Words.{EachTree, FieldsFit, Fits, core_attribute_of, core_fields_from, core_fields_of, core_ty_of, entries_of, trees_of}

abbrev pub invariant-fits::all_fit-loop-value : goal.invariant-fits::all_fit-loop-value
invariant-fits::all_fit-loop-value l =
    EachTree (λ value. Fits l.extensions value (core_ty_of l.ty)) (trees_of (drop l.value-index l.values))
    ↔ EachTree (λ value. Fits l.extensions value (core_ty_of l.ty)) (trees_of l.values)

abbrev pub invariant-fits::fields_fit-loop-name : goal.invariant-fits::fields_fit-loop-name
invariant-fits::fields_fit-loop-name l =
    FieldsFit l.extensions (entries_of l.values) (core_fields_from
    (map (λ entry. (string_bytes entry.0, core_attribute_of entry.1)) l.name-iterator))
    ↔ FieldsFit l.extensions (entries_of l.values) (core_fields_of l.attrs)
