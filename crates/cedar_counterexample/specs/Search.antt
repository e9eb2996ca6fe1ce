-- Types of which a search for a value has samples.
use Rattle.cedar_counterexample.specs.declared.search.Search.{Search}
use Rattle.cedar_type_rules.specs.Words.{AreInhabitedWith, Fields, IsInhabitedWith, Ty}
use Rattle.cedar_types.specs.Samples.{value_trees}

-- a type is inhabited by the samples of a search
abbrev pub IsSampledIn : Search → Ty → Type 0
IsSampledIn search ty = IsInhabitedWith search.extensions.now (value_trees search.samples.now) ty

-- the types of attributes are
abbrev pub AreSampledIn : Search → Fields → Type 0
AreSampledIn search fields =
    AreInhabitedWith search.extensions.now (value_trees search.samples.now) fields
