use Rattle.std.proofs.Common.{◌≡◌, map, length, sym, subst, rules}
use Rattle.cedar_schema_tokens.specs.Lexical.{fault_of}
use Rattle.cedar_schema_tokens.specs.Token.{token_of}
use Rattle.cedar_schema_tokens.specs.Refused.{IsRefused, HasNoTokens}
use Rattle.cedar_schema_tokens.proofs.Exact.{tokens_are, refused, has_none}
use Rattle.cedar_schema_tokens.proofs.reading.read.Goals as goal

pub returns-in-Ok-clause-found : goal.returns-in-Ok-clause-found
returns-in-Ok-clause-found c = tokens_are c.args.source c.args.text.now (map token_of c.in-Ok.found.items) c.in-Ok.ensures

pub returns-in-Err-clause-fault : goal.returns-in-Err-clause-fault
returns-in-Err-clause-fault c =
    let same : c.fault_of.result ≡ fault_of c.args.source (length c.args.text.now) c.in-Err.stop = search rules in
    subst (IsRefused c.args.source c.args.text.now) (sym same) (refused c.args.source c.args.text.now c.in-Err.stop c.in-Err.ensures)

pub returns-in-Err-clause-refused : goal.returns-in-Err-clause-refused
returns-in-Err-clause-refused c =
    let same : c.fault_of.result ≡ fault_of c.args.source (length c.args.text.now) c.in-Err.stop = search rules in
    subst (HasNoTokens c.args.source c.args.text.now) (sym same) (has_none c.args.source c.args.text.now c.in-Err.stop c.in-Err.ensures)
