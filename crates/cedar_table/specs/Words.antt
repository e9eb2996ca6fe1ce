-- The words of clauses, from one place.
pub use Rattle.std.specs.Cmp.{and_equiv, and_per, on_equiv, on_per}
pub use Rattle.std.specs.Cmp.Lexicographic.{lists_equiv, lists_per, pointwise}
pub use Rattle.std.specs.Fn.{FnReturnsAt}
pub use Rattle.std.specs.Iterator.{at_most}
pub use Rattle.std.specs.List.{zip}
unfoldable pub use Rattle.std.specs.List.Sorted.{IsStrictlySortedBy}
pub use Rattle.std.specs.Map.{keys_of, values_of}
pub use Rattle.std.specs.Map.Iter.{TakesFirst, TakesLast, deref, deref_pair}
pub use Rattle.std.specs.Option.{option_copied}
pub use Rattle.std.specs.Slice.Iter.{iter_rest}
pub use Rattle.std.specs.declared.cmp.Ordering.TheVariants.{Equal}
pub use Rattle.cedar_ast.specs.Lists.{HoldsPairwise}
pub use Rattle.cedar_ast.specs.declared.memory.Memory.{Memory}
pub use Rattle.cedar_table.specs.Entries.{Entries, HasKey, get_by}
pub use Rattle.cedar_table.specs.Hints.{AreHinted, IsPassed, LeadToAll, HintLeadsTo, RowIs, hash_by, row_of, tag_of}
pub use Rattle.cedar_table.specs.StandsAt.{KeyStandsAt, StandsAt}
pub use Rattle.cedar_table.specs.declared.hints.Hint.{Hint}
pub use Rattle.cedar_table.specs.declared.hints.Hints.{Hints}
