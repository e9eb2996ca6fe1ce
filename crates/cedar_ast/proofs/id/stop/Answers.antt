use Rattle.std.proofs.Common.{◌≡◌, false, sym, ◌∙◌}
use Rattle.cedar_ast.proofs.IdStops.{stops_at_start, stops_within}
use Rattle.cedar_ast.proofs.id.stop.Goals as goal
use Rattle.cedar_ast.specs.Identifier.{begins_identifier}

pub returns-then-not-has_start : goal.returns-then-not-has_start
returns-then-not-has_start c =
    let none : begins_identifier c.args.text.now ≡ false = (let test = c.if-not-has_start.true in let says = c.has_start.ensures in cc) in
    stops_at_start c.args.text.now none

pub returns-then-not-is_inner : goal.returns-then-not-is_inner
returns-then-not-is_inner c =
    stops_within c.args.text.now c.loop-at.at (sym c.has_start.ensures ∙ c.if-not-has_start.false) c.loop-at.invariant c.loop-at-test.true
    (sym c.is_inner.ensures ∙ (let test = c.if-not-is_inner.true in cc))
