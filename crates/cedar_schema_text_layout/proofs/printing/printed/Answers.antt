use Rattle.std.proofs.Common.{◌≡◌, ◌<◌, ◌+◌, ◌++◌, ◌∷◌, [], Some, get_or, length, map, ap, subst, sym, ◌∙◌, arith, string_bytes}
use Rattle.std.specs.List.{AllByRecursion}
use Rattle.cedar_schema_text_layout.specs.Relaid.{before}
use Rattle.cedar_schema_text_layout.specs.Separators.{separator_bytes}
use Rattle.cedar_schema_text_layout.proofs.Before.{before_all, before_at, spelled_here}
use Rattle.cedar_schema_text_layout.proofs.Printed.{Writes, writes_all, writes_on}
use Rattle.cedar_schema_text_layout.proofs.printing.printed.Goals as goal
use Rattle.cedar_schema_tokens.specs.Spelled.{AreSpelled, IsSpelling, spelled_of}

pub loop-index-preserved : goal.loop-index-preserved
loop-index-preserved c =
    let pieces = c.args.pieces.now in
    let at = c.loop-index.index in
    let within : at < length pieces = c.loop-index-test.true in
    writes_on (before pieces at) (before pieces (at + 1)) c.loop-index.last (string_bytes c.loop-index.out) _ _ c.parting.result
    (spelled_of (get_or pieces at _)) c.loop-index.invariant c.parting.ensures (spelled_here pieces at _ within c.requires)
    (before_at pieces at _ within)
    c.in_ok-push_separator.ensures c.in_ok-push_str.ensures.bytes

pub returns : goal.returns
returns c =
    let pieces = c.args.pieces.now in
    writes_all (map spelled_of pieces) c.loop-index.last (string_bytes c.loop-index.out)
    (subst (λ all. Writes all c.loop-index.last (string_bytes c.loop-index.out)) (before_all pieces c.loop-index.index c.loop-index-test.false) c.loop-index.invariant)
