use Rattle.std.proofs.Common.{subst, string_bytes, string_cmp}
use Rattle.std.proofs.lemmas.Result.{IfOk-weaker}
use Rattle.cedar_ast.proofs.ShownLemmas.{copy_ties}
use Rattle.cedar_ast.proofs.Texts.{text_cmp-Equal}
use Rattle.cedar_ast.proofs.TurnLemmas.{turn_weaker}
use Rattle.cedar_schema_ast.proofs.json_schema.declaration_copies.copied_attributes.Goals as goal
use Rattle.cedar_schema_ast.specs.DeclarationCopies.{AreEntriesCopied, IsTextCopy, IsValueCopy}

pub copied_entries-requires-clause-ties : goal.copied_entries-requires-clause-ties
copied_entries-requires-clause-ties c key answer ran =
    copy_ties string_cmp string_bytes (λ a b. text_cmp-Equal (string_bytes a) (string_bytes b)) key ran.shown.now answer ran.shows ran.says.met

pub returns : goal.returns
returns c =
    IfOk-weaker c.copied_entries.result _ (AreEntriesCopied IsTextCopy IsValueCopy c.args.attributes.now)
    (λ copies turn. turn_weaker _ (λ entry other. IsTextCopy entry.0 other.0 × IsValueCopy entry.1 other.1)
    (λ entry copy ran. (
      subst (λ it. IsTextCopy it copy.0) ran.0.shows ran.0.says.met,
      subst (λ it. IsValueCopy it copy.1) ran.1.shows ran.1.says.met.0,
    )) c.args.attributes.now.entries copies.entries turn)
    c.copied_entries.ensures
