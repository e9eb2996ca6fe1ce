use Rattle.std.proofs.Common.{refl}
use Rattle.cedar_counterexample.proofs.TypeCounterexamples.{separated_outside}
use Rattle.cedar_counterexample.proofs.divergence.attributes_outside.Goals as goal
use Rattle.cedar_counterexample.specs.Words.{AreTexts-fields, AreWellFormed-fields, Attributes, IsSortedByName-fields, IsWellFormed, OpenTag, fields_of, record_found, record_of, shape_type, value_trees}
use Rattle.cedar_type_rules.proofs.StatedLemmas.{IsInhabited-with}
use Rattle.cedar_type_rules.proofs.ValueInclusion.{inclusion_by_parts}

-- attributes are those of a well-formed record
formed : (all : Attributes) (openness : OpenTag) → IsWellFormed (record_of (fields_of all) openness)
formed all openness = (IsSortedByName-fields all, AreWellFormed-fields all, AreTexts-fields all)

pub returns-in_ok-attributes-in-Some-clause-none : goal.returns-in_ok-attributes-in-Some-clause-none
returns-in_ok-attributes-in-Some-clause-none c =
    let extensions = c.args.extensions.now in
    let a = shape_type c.args.a in
    let b = shape_type c.args.b in
    let found = rw c.in-Some.is at c.in_ok-start.ensures in
    (λ none. absurd cc, λ within. absurd (separated_outside extensions a b (record_found c.in-Some.start).value found.0 within))

pub returns-in-None-clause-none : goal.returns-in-None-clause-none
returns-in-None-clause-none c =
    let extensions = c.args.extensions.now in
    let a = shape_type c.args.a in
    let b = shape_type c.args.b in
    let found = rw c.in-None.is at c.in_ok-start.ensures in
    let lives = IsInhabited-with extensions (value_trees c.args.samples.now) a c.requires in (
      λ _. (inclusion_by_parts a b (formed c.args.a.attributes.now c.args.a.openness) (formed c.args.b.attributes.now c.args.b.openness) extensions lives).0 found,
      λ _. refl,
    )
