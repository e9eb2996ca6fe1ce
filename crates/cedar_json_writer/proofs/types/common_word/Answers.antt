use Rattle.std.proofs.Common.{sym, ◌∙◌, ap}
use Rattle.std.proofs.lemmas.Bool.{false≢true}
use Rattle.cedar_ast.specs.PlainName.{PlainName}
use Rattle.cedar_json_writer.proofs.WrittenTypes.{qualified_apart}
use Rattle.cedar_json_writer.proofs.types.common_word.Goals as goal

pub returns-else-is_unqualified : goal.returns-else-is_unqualified
returns-else-is_unqualified c = qualified_apart c.args.name.now
    (λ none. false≢true (sym c.if-is_unqualified.false
    ∙ c.is_unqualified.ensures.1 (ap (λ (n : PlainName). n.path) c.as_internal-name.ensures.name ∙ none)))
