use Rattle.std.proofs.Common.{◌≡◌, string_bytes, suc, ◌∙◌}
use Rattle.std.proofs.lemmas.Bool.{false≢true}
use Rattle.cedar_ast.proofs.ValueLemmas.{IsName-stretch, stretch}
use Rattle.cedar_counterexample.proofs.FreshLemmas.{underscores-stretch}
use Rattle.cedar_counterexample.proofs.fresh.type_of_length.Goals as goal

pub unreachable-requires : goal.unreachable-requires
unreachable-requires c =
    let text : string_bytes c.in_ok-underscores.field-0 ≡ stretch (suc c.args.count) =
    c.in_ok-underscores.ensures ∙ underscores-stretch c.args.count in
    false≢true (c.in_default.ensures.valid.1 (rw text (IsName-stretch c.args.count).0))
