use Rattle.std.proofs.Common.{◌↔◌, map, string_bytes}
use Rattle.cedar_ast.proofs.fits.names_listed.Given as goal
use Rattle.cedar_ast.specs.Words.{Included, core_fields_of, core_names, entries_of, entry_names}

abbrev pub invariant-loop-name : goal.invariant-loop-name
invariant-loop-name l =
    let listed = core_names (core_fields_of l.attrs) in
    Included (map string_bytes l.name-iterator) listed ↔ Included (entry_names (entries_of l.values)) listed
