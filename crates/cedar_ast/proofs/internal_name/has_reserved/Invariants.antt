use Rattle.std.proofs.Common.{◌≡◌, ◌<◌, ℕ, map, get_or}
use Rattle.cedar_ast.proofs.internal_name.has_reserved.Given as goal
use Rattle.cedar_ast.specs.Words.{id_text, reserved_word}

abbrev pub invariant-loop-part : goal.invariant-loop-part
invariant-loop-part l = (k : ℕ) → k < l.part-index → ¬ (get_or (map id_text l.path) k reserved_word ≡ reserved_word)
