use Rattle.std.proofs.Common.{◌≡◌, ◌++◌, List, map, take}
use Rattle.cedar_written_out.proofs.listing.list_common_types.Given as goal
use Rattle.cedar_written_out.specs.Words.{Defined, Expr, KnowsAll, ListsAlso, PlainName, RawName, common_expr, raw_reference, written_common}

abbrev pub invariant-loop-item_index : goal.invariant-loop-item_index
invariant-loop-item_index l =
    (defined : Defined) → KnowsAll defined l.scope → (after : List (PlainName × Expr))
    → defined.common ≡ written_common RawName raw_reference l.declared ++ after
    → ListsAlso defined (map common_expr (written_common RawName raw_reference (take l.item_index l.declared))) l.initial.listed.items
    l.listed.items
