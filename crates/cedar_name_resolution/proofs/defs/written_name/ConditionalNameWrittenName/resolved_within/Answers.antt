use Rattle.std.proofs.Common.{List, IfOk, subst}
use Rattle.cedar_name_resolution.proofs.WrittenNames.{IsFound}
use Rattle.cedar_name_resolution.proofs.defs.written_name.ConditionalNameWrittenName.resolved_within.Goals as goal
use Rattle.cedar_name_resolution.specs.Words.{PlainName, held_names, name_of}

pub returns : goal.returns
returns c =
    let Found : List PlainName → Type 0 = λ each. IfOk c.first_defined.result (IsFound name_of (held_names c.args.all_defs.now) c.args.kind each) in
    subst Found c.possibilities.ensures.names c.first_defined.ensures
