use Rattle.std.proofs.Common.{◌≡◌, ◌+◌, ◌-◌, subst, arith}
use Rattle.std.proofs.lemmas.Str.{IsCharBoundary-after_ascii}
use Rattle.std.specs.Str.{IsCharBoundary}
use Rattle.cedar_schema_tokens.proofs.Runs.{within_from_byte}
use Rattle.cedar_schema_tokens.proofs.steps.skip.Goals as goal

pub range_from-requires : goal.range_from-requires
range_from-requires c _ =
    let s = c.args.s.now in
    let i = c.args.n - 1 in
    let more : i + 1 ≡ c.args.n = omega (arith, c.requires.some) in
    subst (IsCharBoundary s) more (IsCharBoundary-after_ascii s i c.utf8.s (within_from_byte s i c.requires.there) c.requires.ascii)
