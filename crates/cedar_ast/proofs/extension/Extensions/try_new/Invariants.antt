use Rattle.std.proofs.Common.{◌≡◌, ◌≢◌, map, take, All, AllPairs, Contains}
use Rattle.cedar_ast.proofs.extension.Extensions.try_new.Given as goal
use Rattle.cedar_ast.specs.Words.{IsUnqualified, plain_name, primitive_words}

abbrev pub invariant-loop-at : goal.invariant-loop-at
invariant-loop-at l =
    (l.types.items ≡ l.fn.types.items)
    × All (λ name. IsUnqualified (plain_name name) × ¬ Contains primitive_words (plain_name name).base) (take l.at l.types.items)
    × AllPairs (λ a b. a ≢ b) (map plain_name (take l.at l.types.items))
