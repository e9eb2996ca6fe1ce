use Rattle.std.proofs.Common.{◌≡◌, ℕ, true, ◌∙◌, subst}
use Rattle.std.proofs.lemmas.Str.{IsCharBoundary-start}
use Rattle.std.specs.Char.{is_whitespace, len_utf8}
use Rattle.std.specs.Str.{IsCharBoundary}
use Rattle.cedar_schema_tokens.specs.Lexical.{first_char}
use Rattle.cedar_schema_tokens.proofs.Runs.{IsCharBoundary-blank}
use Rattle.cedar_schema_tokens.proofs.gap.blank_len.Goals as goal

pub returns-then-is_whitespace-clause-cut : goal.returns-then-is_whitespace-clause-cut
returns-then-is_whitespace-clause-cut c =
    let s = c.args.s.now in
    let white : is_whitespace (first_char s) ≡ true = cc in
    let width : len_utf8 (first_char s) ≡ c.len_utf8.result = cc (c.len_utf8.ensures.value) in
    subst (IsCharBoundary s) width (IsCharBoundary-blank s c.utf8.s white)

pub returns-else-is_whitespace-clause-cut : goal.returns-else-is_whitespace-clause-cut
returns-else-is_whitespace-clause-cut c = IsCharBoundary-start c.args.s.now c.utf8.s
