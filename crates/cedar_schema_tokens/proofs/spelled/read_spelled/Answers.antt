use Rattle.std.proofs.Common.{◌≡◌, ◌≢◌, map, length, refl, ap, ◌∙◌, sym, subst, rules}
use Rattle.cedar_schema_tokens.specs.declared.fault.Stop.{Stop}
use Rattle.cedar_schema_tokens.specs.declared.fault.Stop.TheVariants.{At, Memory}
use Rattle.cedar_schema_tokens.specs.declared.fault.TokenFault.TheVariants as fault
use Rattle.cedar_schema_tokens.specs.Lexical.{fault_of}
use Rattle.cedar_schema_tokens.specs.Token.{token_of}
use Rattle.cedar_schema_tokens.specs.Refused.{IsRefused, HasNoTokens}
use Rattle.cedar_schema_tokens.proofs.spelled.read_spelled.Goals as goal

memory_alone : (stop : Stop) → (stop ≢ Memory → ⊥) → stop ≡ Memory
memory_alone (At wrong left behind) never = absurd (never (λ same. cc))
memory_alone Memory never = refl

pub returns-clause-fault : goal.returns-clause-fault
returns-clause-fault c =
    let stop = c.in-Err.stop in
    let memory : stop ≡ Memory = memory_alone stop (λ other. c.in-Err.ensures.stop other c.args.source _ c.in_ok-_tokens.ensures.found) in
    let same : c.fault_of.result ≡ fault.Memory = c.fault_of.ensures ∙ ap (fault_of c.args.source (length c.args.text.now)) memory in
    subst (IsRefused c.args.source c.args.text.now) (sym same) tt

pub returns-clause-refused : goal.returns-clause-refused
returns-clause-refused c =
    let stop = c.in-Err.stop in
    let memory : stop ≡ Memory = memory_alone stop (λ other. c.in-Err.ensures.stop other c.args.source _ c.in_ok-_tokens.ensures.found) in
    let same : c.fault_of.result ≡ fault.Memory = c.fault_of.ensures ∙ ap (fault_of c.args.source (length c.args.text.now)) memory in
    subst (HasNoTokens c.args.source c.args.text.now) (sym same) tt
