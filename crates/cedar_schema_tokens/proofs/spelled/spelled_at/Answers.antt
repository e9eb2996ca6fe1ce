use Rattle.std.proofs.Common.{◌≡◌, ◌∙◌, List, ℕ, Ok, true, false, sym, ap, subst, rules}
use Rattle.cedar_schema_tokens.specs.Spelled.{IsFront, begins_comment}
use Rattle.cedar_schema_tokens.specs.Lexical.{lexeme_at}
use Rattle.cedar_schema_tokens.specs.Token.{lexeme_of}
use Rattle.cedar_schema_tokens.specs.declared.spelled.SpelledKind.TheVariants as kind
use Rattle.cedar_schema_tokens.proofs.Spellings.{comment_front, token_front}
use Rattle.cedar_schema_tokens.proofs.spelled.spelled_at.Goals as goal

pub returns-then-begins_comment : goal.returns-then-begins_comment
returns-then-begins_comment c =
    let front = c.args.front.now in
    let is : begins_comment front ≡ true = sym c.begins_comment.ensures ∙ c.if-begins_comment.true in
    subst (IsFront front kind.Comment) (ap (λ (parts : List ℕ × List ℕ). parts.1) (sym c.split_run.ensures)) (comment_front front is)

pub returns : goal.returns
returns c =
    let front = c.args.front.now in
    let other : begins_comment front ≡ false = sym c.begins_comment.ensures ∙ c.if-begins_comment.false in
    let token : lexeme_at front ≡ Ok (lexeme_of c.in_ok-lexeme.lexeme, c.in_ok-lexeme.rest.now) = c.in_ok-lexeme.ensures in
    subst (λ it. IsFront front it c.in_ok-lexeme.rest.now) (sym c.kind_of.ensures)
    (token_front front c.in_ok-lexeme.rest.now (lexeme_of c.in_ok-lexeme.lexeme) other token)
