use Rattle.std.proofs.Common.{string_bytes}
use Rattle.std.proofs.lemmas.Bool.{false≢true}
use Rattle.cedar_fragments.proofs.UnresolvableLemmas.{action_unreserved}
use Rattle.cedar_fragments.proofs.namespace.qualify_actions.shared_uid.Goals as goal
use Rattle.cedar_fragments.specs.Words.{name_of}

-- no action has a type whose name is reserved
pub returns-in_default-clause-uid : goal.returns-in_default-clause-uid
returns-in_default-clause-uid c among =
    false≢true (c.in_default.ensures.valid.1
    (action_unreserved c.args.all_defs.now (record { ty = name_of c.args.name; eid = string_bytes c.args.id.now }) among))
