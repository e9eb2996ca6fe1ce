use Rattle.std.proofs.Common.{refl}
use Rattle.cedar_fragments.proofs.PlacedFragments.{fragments_fit}
use Rattle.cedar_fragments.proofs.theorems.references_fit_their_positions.Goals as goal
use Rattle.cedar_fragments.specs.Words.{ConditionalName, positional_reference}

pub returns : goal.returns
returns c = fragments_fit ConditionalName positional_reference (λ name. refl) ConditionalName positional_reference
