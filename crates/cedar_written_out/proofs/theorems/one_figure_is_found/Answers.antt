use Rattle.std.proofs.Common.{◌≡◌, sym, ◌∙◌, ap, min}
use Rattle.cedar_schema_semantics.proofs.ResolutionLemmas.{elaborated_once}
use Rattle.cedar_written_out.proofs.theorems.one_figure_is_found.Goals as goal
use Rattle.cedar_written_out.specs.Words.{most, type_depth, type_size}

pub returns-clause-figures : goal.returns-clause-figures
returns-clause-figures c defined one expr figure other is is_other =
    let same : is.0 ≡ is_other.0 = elaborated_once defined one is.1 is_other.1 in (
      is.2.depth ∙ (ap (λ ty. min (type_depth ty) most) same ∙ sym is_other.2.depth),
      is.2.size ∙ (ap (λ ty. min (type_size ty) most) same ∙ sym is_other.2.size),
    )

pub returns-clause-none : goal.returns-clause-none
returns-clause-none c defined expr figure is none = none is.0 is.1
