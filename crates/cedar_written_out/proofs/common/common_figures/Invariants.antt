use Rattle.std.proofs.Common.{◌≡◌, length, take}
use Rattle.cedar_written_out.proofs.FigureLemmas.{FiguresSoFar}
use Rattle.cedar_written_out.proofs.common.common_figures.Given as goal
use Rattle.cedar_written_out.specs.Words.{Defined, DefinesJust, RawName, held_names, raw_reference, written_common}

abbrev pub invariant-loop-item_index : goal.invariant-loop-item_index
invariant-loop-item_index l = record {
  len : length l.figures.items ≡ length l.types;
  so_far : (defined : Defined) → DefinesJust (written_common RawName raw_reference l.types) (held_names l.defs) defined
      → FiguresSoFar defined (written_common RawName raw_reference l.types) (take l.item_index-index l.item_index-items) l.figures.items;
}
