use Rattle.std.proofs.Common.{◌≡◌, false, MatchOption, None, Some, ap, codes, ok_or, option_and_then, subst, sym, w64, ◌∙◌, arith}
use Rattle.std.specs.Str.{bytes_eq}
use Rattle.std.specs.Str.Parse.{ParsesSigned}
use Rattle.cedar_json.proofs.NumberLemmas.{whole_number-parsed}
use Rattle.cedar_json.proofs.value_reading.whole_number.Goals as goal
use Rattle.cedar_json.specs.WholeNumber.{whole_number}
use Rattle.json.specs.Find.{as_number}
use Rattle.json.specs.Value.{value_view}

pub returns : goal.returns
returns c =
    let text = c.in_ok-text.text.now in
    let is : as_number (value_view c.args.value.now) ≡ Some text = grind arith in
    let parsed : ParsesSigned w64 10 text (ok_or c.as_i64.result text) =
    subst (λ o. MatchOption o (c.as_i64.result ≡ None) (λ s. ParsesSigned w64 10 s (ok_or c.as_i64.result s))) is c.as_i64.ensures in
    let other : bytes_eq text (codes "-0") ≡ false = grind arith in
    sym (ap (option_and_then whole_number) is ∙ whole_number-parsed text text c.as_i64.result other parsed)
