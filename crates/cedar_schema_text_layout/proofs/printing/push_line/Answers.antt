use Rattle.std.proofs.Common.{◌≡◌, ◌+◌, ◌++◌, ◌∷◌, [], suc, ap, ◌∙◌, arith, append_assoc, string_bytes}
use Rattle.cedar_schema_text_layout.specs.Separators.{indent}
use Rattle.cedar_schema_text_layout.proofs.Printed.{indent_more}
use Rattle.cedar_schema_text_layout.proofs.printing.push_line.Goals as goal

pub loop-level-preserved : goal.loop-level-preserved
loop-level-preserved c =
    let level = c.loop-level._level in
    let begun = string_bytes c.args.out.now in
    let next : suc level ≡ level + 1 = omega arith in
    c.in_ok-push_str.ensures.bytes ∙ ap (λ bytes. bytes ++ 32 ∷ 32 ∷ []) c.loop-level.invariant
    ∙ append_assoc begun (10 ∷ indent level) (32 ∷ 32 ∷ []) ∙ ap (λ bytes. begun ++ 10 ∷ bytes) (indent_more level ∙ ap indent next)
