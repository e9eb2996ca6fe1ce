use Rattle.std.proofs.Common.{inl, inr, [], ◌∷◌, refl, codes}
use Rattle.std.proofs.lemmas.Bool.{false≢true}
use Rattle.std.proofs.lemmas.Slice.Eq.{bytes_eq-Decides}
use Rattle.cedar_ast.proofs.Basics.{Contains-single}
use Rattle.cedar_ast.proofs.Lists.{Contains-cons}
use Rattle.rule_examples.proofs.subtyping_examples.members_of_records_by_example.Goals as goal

pub returns-clause-unlisted : goal.returns-clause-unlisted
returns-clause-unlisted c extensions value h =
    let among = Contains-cons (codes "a") (codes "z" ∷ []) (codes "z") (inr (Contains-cons (codes "z") [] (codes "z") (inl refl))) in
    let same = Contains-single (codes "a") (codes "z") (h.0 (codes "z") among) in
    false≢true ((bytes_eq-Decides (codes "a") (codes "z")).1 same)
