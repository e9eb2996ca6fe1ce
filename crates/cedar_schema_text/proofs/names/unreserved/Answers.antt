use Rattle.std.proofs.Common.{◌≡◌, ◌≢◌, false, true, string_bytes, subst, sym, ◌∙◌}
use Rattle.cedar_ast.specs.Words.{IsIdentifier, reserved_word}
use Rattle.cedar_schema_text.proofs.Among.{reserved_among}
use Rattle.cedar_schema_text.proofs.NameLemmas.{unreserved_none}
use Rattle.cedar_schema_text.specs.Faults.{is_unreserved}
use Rattle.cedar_schema_text.proofs.names.unreserved.Goals as goal

pub returns-in-None-clause-fault : goal.returns-in-None-clause-fault
returns-in-None-clause-fault c =
    let text = string_bytes c.args.name.now.text in
    let is = c.in_ok-from_str.ensures.ok ∙ c.as_str.ensures.value in
    reserved_among (is_unreserved text) c.args.name.now.loc
    (unreserved_none text (subst (λ t. IsIdentifier t × (t ≢ reserved_word) → false ≡ true) is c.in-None.ensures.valid.1))
