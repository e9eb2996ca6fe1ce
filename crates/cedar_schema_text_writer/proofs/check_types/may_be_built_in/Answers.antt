use Rattle.std.proofs.lemmas.Bool.{false≢true}
use Rattle.std.proofs.Common.{sym, ◌∙◌}
use Rattle.cedar_ast.specs.Words.{name_of}
use Rattle.cedar_schema_text_writer.proofs.Reserved.{qualified_may_not, reserved_may}
use Rattle.cedar_schema_text_writer.proofs.check_types.may_be_built_in.Goals as goal

pub returns-then-is_reserved : goal.returns-then-is_reserved
returns-then-is_reserved c =
    reserved_may (name_of c.args.name.now) c.is_reserved.result c.if-is_reserved.true (c.is_reserved.ensures.0 c.if-is_reserved.true)

pub returns-else-is_unqualified : goal.returns-else-is_unqualified
returns-else-is_unqualified c =
    qualified_may_not (name_of c.args.name.now) c.is_unqualified.result c.if-is_unqualified.false
    (λ there. false≢true (sym c.if-is_reserved.false ∙ c.is_reserved.ensures.1 there))
    (λ none. false≢true (sym c.if-is_unqualified.false ∙ c.is_unqualified.ensures.1 none))
