use Rattle.std.proofs.Common.{refl}
use Rattle.cedar_counterexample.proofs.divergence.outside.Goals as goal
use Rattle.cedar_counterexample.specs.Words.{IsWellFormed-type, ty_of, value_trees}
use Rattle.cedar_type_rules.proofs.StatedLemmas.{IsInhabited-with}
use Rattle.cedar_type_rules.proofs.ValueInclusion.{inclusion_by_parts}

pub returns-in-None-clause-none : goal.returns-in-None-clause-none
returns-in-None-clause-none c =
    let extensions = c.args.extensions.now in
    let a = ty_of c.args.a.now in
    let b = ty_of c.args.b.now in
    let found = rw c.in-None.is at c.in_ok-found.ensures in
    let lives = IsInhabited-with extensions (value_trees c.args.samples.now) a c.requires in (
      λ _. (inclusion_by_parts a b (IsWellFormed-type c.args.a.now) (IsWellFormed-type c.args.b.now) extensions lives).0 found,
      λ _. refl,
    )
