use Rattle.std.proofs.Common.{◌↔◌, map, string_bytes}
use Rattle.cedar_name_map.proofs.RisingLemmas.{Ahead}
use Rattle.cedar_name_map.proofs.SearchLemmas.{text_of}
use Rattle.cedar_types.proofs.member.all_listed.Given as goal
use Rattle.cedar_types.specs.Words.{Included, entries_of, entry_names, field_names, fields_of, pairs_of, text_cmp}

abbrev pub invariant-loop-name : goal.invariant-loop-name
invariant-loop-name l =
    let listed = field_names (fields_of l.attrs) in
    (Included (map string_bytes l.name-iterator) listed ↔ Included (entry_names (entries_of l.values)) listed)
    × Ahead text_of string_bytes text_cmp (pairs_of l.attrs) l.at l.name-iterator
