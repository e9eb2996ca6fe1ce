-- The words of clauses, from one place.
pub use Rattle.std.specs.Iterator.{at_most}
pub use Rattle.std.specs.Map.{keys_of}
pub use Rattle.std.specs.Map.Iter.{TakesFirst, deref, deref_pair}
pub use Rattle.std.specs.Option.{option_copied}
pub use Rattle.std.specs.Prelude.{List}
pub use Rattle.std.specs.Slice.Iter.{iter_rest}
pub use Rattle.std.specs.declared.alloc.Global.{Global}
pub use Rattle.std.specs.declared.cmp.Ordering.TheVariants.{Less}
pub use Rattle.std.specs.declared.string.String.{String}
pub use Rattle.cedar_ast.specs.LastNamed.{last_named}
pub use Rattle.cedar_ast.specs.Text.{Text, text_cmp}
pub use Rattle.cedar_name_map.specs.ByName.{AreSortedByName, entry_texts, value_at, with_texts}
pub use Rattle.cedar_name_map.specs.Entries.{entries_by_name}
