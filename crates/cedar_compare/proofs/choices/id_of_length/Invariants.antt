use Rattle.std.proofs.Common.{◌≡◌, string_bytes}
use Rattle.std.proofs.Math.ListN.{replicate}
use Rattle.cedar_compare.proofs.choices.id_of_length.Given as goal

abbrev pub invariant-loop : goal.invariant-loop
invariant-loop l = string_bytes l.text ≡ replicate l.counter 120
