use Rattle.std.proofs.Common.{◌≡◌, true, subst, sym}
use Rattle.cedar_ast.specs.Words.{is_identifier_text}
use Rattle.cedar_schema_text.proofs.Among.{reserved_among}
use Rattle.cedar_schema_text.proofs.NameLemmas.{none_valid}
use Rattle.cedar_schema_text.proofs.names.id.Goals as goal

pub returns-in-None-clause-fault : goal.returns-in-None-clause-fault
returns-in-None-clause-fault c =
    let text = c.args.id.now in
    reserved_among (is_identifier_text text) c.args.loc
    (none_valid (is_identifier_text text) (λ e. c.in-None.ensures.valid.1 (subst (λ t. is_identifier_text t ≡ true) (sym c.in_ok-from_str.ensures.ok) e)))
