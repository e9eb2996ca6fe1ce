use Rattle.cedar_types.proofs.theorems.types_are_well_formed.Goals as goal
use Rattle.cedar_types.specs.Words.{AreTexts-fields, AreWellFormed-fields, IsSortedByName-fields, IsWellFormed-type, kind_formed}

pub returns-clause-kinds : goal.returns-clause-kinds
returns-clause-kinds c = kind_formed

pub returns-clause-types : goal.returns-clause-types
returns-clause-types c = IsWellFormed-type

pub returns-clause-sorted_by_name : goal.returns-clause-sorted_by_name
returns-clause-sorted_by_name c = IsSortedByName-fields

pub returns-clause-attributes : goal.returns-clause-attributes
returns-clause-attributes c = AreWellFormed-fields

pub returns-clause-texts : goal.returns-clause-texts
returns-clause-texts c = AreTexts-fields
