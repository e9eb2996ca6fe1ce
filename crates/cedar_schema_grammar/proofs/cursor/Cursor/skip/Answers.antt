use Rattle.std.proofs.Common.{map, drop, sym, ap, ◌∙◌}
use Rattle.std.proofs.lemmas.List.{drop-map}
use Rattle.cedar_schema_tokens.specs.Token.{token_of}
use Rattle.cedar_schema_grammar.proofs.cursor.Cursor.skip.Goals as goal

pub returns : goal.returns
returns c =
    ap (map token_of) c.past-self-inside.ensures ∙ sym (drop-map token_of c.args.count c.self.inside.tokens.now) ∙ ap (drop c.args.count) c.self.view_is
