use Rattle.std.proofs.Common.{IsSome, arith, inl, inr, refl, subst, sym}
use Rattle.bench.proofs.run.run.Goals as goal

-- words that give a command don't end in the status of those that give none
pub returns-in-Ok : goal.returns-in-Ok
returns-in-Ok g c = record {
  usage = (
    λ two command. omega (arith, two),
    λ none. absurd (none (c.command_of.ensures.0 (subst IsSome (sym c.in-Some.is) refl))),
  );
}

-- nor where the program stopped
pub returns-in-Err : goal.returns-in-Err
returns-in-Err g c = record {
  usage = (
    λ two command. elim c.stopped.ensures [
      | inl one ↦ omega (arith, one, two)
      | inr other ↦ elim other [ inl three ↦ omega (arith, three, two) | inr four ↦ omega (arith, four, two) ]
    ],
    λ none. absurd (none (c.command_of.ensures.0 (subst IsSome (sym c.in-Some.is) refl))),
  );
}
