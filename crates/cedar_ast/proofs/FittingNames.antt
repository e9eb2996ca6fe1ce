-- The names of extension types.
use Rattle.std.proofs.Common.{◌≢◌, ◌↔◌, List, map, All, AllPairs, Contains}
use Rattle.std.proofs.lemmas.List.Elements.{All-map}
use Rattle.cedar_ast.proofs.Lists.{All-from_map}
use Rattle.cedar_ast.specs.Words.{IsUnqualified, Name, PlainName, TypeNamesFit, plain_name, primitive_words}

-- the parts of `TypeNamesFit`, over the names as they are declared
pub TypeNamesFit-parts : (names : List Name)
    → (All (λ name. IsUnqualified (plain_name name) × ¬ Contains primitive_words (plain_name name).base) names
    × AllPairs (λ a b. a ≢ b) (map plain_name names)) ↔ TypeNamesFit (map plain_name names)
TypeNamesFit-parts names = (
  λ (fit, distinct). record {
    unqualified = All-map IsUnqualified plain_name names (λ k d lt. (fit k d lt).0);
    distinct = distinct;
    free = All-map (λ (name : PlainName). ¬ Contains primitive_words name.base) plain_name names (λ k d lt. (fit k d lt).1);
  },
  λ whole. (
    λ k d lt. (
      All-from_map IsUnqualified plain_name names whole.unqualified k d lt,
      All-from_map (λ (name : PlainName). ¬ Contains primitive_words name.base) plain_name names whole.free k d lt,
    ),
    whole.distinct,
  ),
)
