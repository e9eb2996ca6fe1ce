use Rattle.std.proofs.Common.{[], codes, arith, inl, refl, ⊎_elim}
use Rattle.cedar_ast.proofs.Lists.{Contains-cons, Contains-cons_cases}
use Rattle.cedar_compare.proofs.UserLemmas.{users_lose}
use Rattle.cedar_compare.proofs.examples.choices_lose_entities.Goals as goal
use Rattle.cedar_compare.specs.Samples.{choice}

pub returns : goal.returns
unfolding lib.Utf8.encode
returns c extensions = users_lose extensions (choice (codes "red")) (choice (codes "blue")) (codes "red") (codes "red", (refl, refl))
    (Contains-cons (codes "red") [] (codes "red") (inl refl), refl, refl, refl)
    (λ of. ⊎_elim (λ same. absurd cc) (λ others. absurd (omega (arith, others.1)))
    (Contains-cons_cases (codes "blue") [] (codes "red") of.0))
