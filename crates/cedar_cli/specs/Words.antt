-- The words of clauses on layout, from one place.
pub use Rattle.std.specs.Borrow.{Bor}
pub use Rattle.std.specs.List.Sorted.{IsPermutation}
pub use Rattle.std.specs.declared.alloc.Global.{Global}
pub use Rattle.json.specs.Lex.{tokens}
pub use Rattle.json.specs.Token.{begin_array, begin_object}
pub use Rattle.json.specs.Tree.{HasNumbers, ItemsHaveNumbers, MembersHaveNumbers, items_tokens, json_tokens, members_tokens}
pub use Rattle.json.specs.Value.{items_view, members_view, value_view}
pub use Rattle.cedar_cli.specs.LaidOut.{IsLayoutFile}
pub use Rattle.cedar_cli.specs.SameTokens.{SameTokens, Text}
