-- The words of what lies below, from one place.
pub use Rattle.std.specs.Cmp.{and_equiv, and_per, both_tied, on_equiv, on_per, on_po, on_total, partial_equiv_from_equiv, then_agrees, then_po, then_total}
pub use Rattle.std.specs.Cmp.Lexicographic.{lists_agrees, lists_equiv, lists_per, lists_po, lists_ties, lists_total, nat_list_cmp_total, nat_list_eq_equiv, pointwise, slice_cmp, slice_partial_cmp, texts_po, texts_ties}
pub use Rattle.std.specs.Cmp.Rules.{hashing}
pub use Rattle.std.specs.Hash.{and-Alike, items_Alike, on_Alike}
pub use Rattle.std.specs.Ordering.{ordering_then, partial_ordering_then}
