use Rattle.std.proofs.Common.{◌≡◌, List, ◌∷◌, map, sym, subst, ◌∙◌, Contains}
use Rattle.cedar_name_resolution.proofs.defs.resolve.resolve_at.Goals as goal
use Rattle.cedar_name_resolution.specs.Words.{IsDefined, PlainName, conditional_reference, held_names, names_of, possibilities_of}

pub returns-in-None-clause-refused : goal.returns-in-None-clause-refused
returns-in-None-clause-refused c =
    let Defines : PlainName → Type 0 = IsDefined (held_names c.args.all_defs.now) c.args.kind in
    let possible = names_of c.possibilities.result.now in
    let none : (name : PlainName) → Contains possible name → ¬ Defines name = rw c.in-None.is at c.in_ok-found.ensures in
    let names : possibilities_of c.new.result ≡ possibilities_of c.args.name =
    c.new.ensures.possibilities ∙ c.into_possibilities.ensures.names in (
      λ name among.
          let Has : List PlainName → Type 0 = λ each. Contains each name in
          none name (subst Has (sym c.possibilities.ensures.names) among),
      (λ i. record { possibilities = names i; kind = c.new.ensures.reference_type i } ∷ map conditional_reference (c.new-in-None.ensures.items i)),
    )
