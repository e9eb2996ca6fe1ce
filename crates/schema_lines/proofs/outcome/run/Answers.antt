use Rattle.std.proofs.Common.{◌≡◌, ◌⊎◌, ◌<◌, ℕ, Result, Ok, Err, IfOk, OnErr, IsSome, arith, inl, inr, refl, subst, sym}
use Rattle.cedar_ast.specs.declared.memory.Memory.{Memory}
use Rattle.schema_lines.proofs.outcome.run.Goals as goal
use Rattle.schema_lines.specs.declared.outcome.Outcome.{Outcome}

-- a status that isn't that of words which give no command
not_two : (outcome : Result Outcome Memory) (n : ℕ) → IfOk outcome (λ given. given.status < 2)
    → IfOk outcome (λ given. (n ≡ given.status) ⊎ (n ≡ 4)) → OnErr outcome (n ≡ 3) → ¬ (n ≡ 2)
not_two (Ok outcome) n small given refused =
    λ two. elim given [ inl same ↦ omega (arith, same, two, small) | inr four ↦ omega (arith, four, two) ]
not_two (Err refusal) n small given refused = λ two. omega (arith, refused, two)

-- words that give a command end in a status of its own
pub returns : goal.returns
returns g c = record {
  usage = (
    λ two command. not_two c.outcome_of.result c.finish.result c.outcome_of.ensures c.finish.ensures.given c.finish.ensures.refused two,
    λ none. absurd (none (c.command_of.ensures.0 (subst IsSome (sym c.in-Some.is) refl))),
  );
}
