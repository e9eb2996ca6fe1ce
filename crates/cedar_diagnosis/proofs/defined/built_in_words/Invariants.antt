use Rattle.std.proofs.Common.{◌≡◌, ◌∷◌, codes, map, take}
use Rattle.cedar_ast.specs.Words.{id_text, plain_name}
use Rattle.cedar_diagnosis.proofs.defined.built_in_words.Given as goal

abbrev pub invariant-loop-name : goal.invariant-loop-name
invariant-loop-name l =
    map id_text l.words.items ≡ codes "Bool" ∷ codes "Long" ∷ codes "String" ∷ map (λ name. (plain_name name).base) (take l.name-index l.name-items)
