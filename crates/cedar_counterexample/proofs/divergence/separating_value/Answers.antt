use Rattle.std.proofs.Common.{◌≡◌, ◌↔◌, None}
use Rattle.std.proofs.lemmas.Result.{IfOk-weaker}
use Rattle.cedar_counterexample.proofs.divergence.separating_value.Goals as goal
use Rattle.cedar_counterexample.specs.Words.{Below, IsWellFormed-type, Permissive, ty_of, value_trees}
use Rattle.cedar_type_rules.proofs.StatedLemmas.{IsStated-with}
use Rattle.cedar_type_rules.proofs.ValueInclusion.{inclusion}

pub returns-clause-none : goal.returns-clause-none
returns-clause-none c =
    let extensions = c.args.extensions.now in
    let samples = value_trees c.args.samples.now in
    let a = ty_of c.args.a.now in
    let b = ty_of c.args.b.now in
    let both = inclusion a b (IsWellFormed-type c.args.a.now) (IsWellFormed-type c.args.b.now) extensions
    (IsStated-with extensions samples a c.requires.first) (IsStated-with extensions samples b c.requires.second) in
    IfOk-weaker c.value_outside.result _ (λ found. (found ≡ None) ↔ Below Permissive a b)
    (λ found is. (λ none. both.1 (is.0 none), λ below. is.1 (both.0 below))) c.value_outside.ensures.none
