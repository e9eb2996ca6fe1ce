use Rattle.std.proofs.Common.{◌∙◌, refl, sym, ap, map}
use Rattle.std.proofs.Output.{has_written_append, has_written_of_eq}
use Rattle.cedar_types.proofs.TextLemmas.{names_text-first}
use Rattle.cedar_types.proofs.show.write_members.Goals as goal
use Rattle.cedar_types.specs.Words.{names_text, type_name}

pub returns-in_ok-fmt-in-Some : goal.returns-in_ok-fmt-in-Some
returns-in_ok-fmt-in-Some g c plain ok =
    let first = c.in_ok-fmt-in-Some.ensures.writes plain refl in
    let others = c.write_others.ensures first.plain ok in
    has_written_of_eq _ _ _ _ _ (sym (names_text-first (type_name c.in-Some.first.now) (map type_name c.in-Some.others.now))
    ∙ ap (λ types. names_text (map type_name types)) (sym c.in-Some.ensures.cases.0 ∙ c.as_slice.ensures))
    (has_written_append _ _ _ _ _ _ first others)
