use Rattle.std.proofs.Common.{◌≡◌, ℕ, ◌+◌, ◌*◌, ◌<◌, get_or, drop, sym, ◌∙◌, subst, arith, rules}
use Rattle.std.proofs.lemmas.Grind.{common_steps}
use Rattle.std.specs.Char.{digit_value}
use Rattle.cedar_schema_tokens.specs.Lexical.{hex_from}
use Rattle.cedar_schema_tokens.proofs.Escapes.{hex_more, hex_turn, no_scalar, char_of_none}
use Rattle.cedar_schema_tokens.proofs.escape.char_of.Goals as goal

pub returns-then-code-gt1114111 : goal.returns-then-code-gt1114111
returns-then-code-gt1114111 c =
    let digits = c.args.digits.now in
    let i = c.loop-byte.byte-index in
    let v = 16 * c.loop-byte.code + c.digit.result in
    let rest = drop (i + 1) digits in
    let is : c.digit.result ≡ digit_value (get_or digits i 0) = grind (arith, common_steps) in
    let turn = hex_turn digits i c.loop-byte.code c.digit.result (omega arith) is in
    let high : 0x10_FFFF < hex_from v rest = omega (arith, hex_more rest v) in
    let P : ℕ → Type 0 = λ n. 0x10_FFFF < n in
    sym (char_of_none digits (no_scalar (hex_from 0 digits) (subst P (sym (c.loop-byte.invariant.0 ∙ turn)) high)))
