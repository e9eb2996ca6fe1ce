use Rattle.std.proofs.Common.{length, string_bytes}
use Rattle.cedar_fragments.proofs.ListedFromEnd.{ListedFromEnd}
use Rattle.cedar_fragments.proofs.namespace.taken_over.ActionsDef+N+N.taken_over.Given as goal
use Rattle.cedar_fragments.specs.Words.{IsSound, RawName, action, action_body, action_fragment_body, declared_action, namespace_name, raw_reference, uid_of}

abbrev pub invariant-loop-id : goal.invariant-loop-id
invariant-loop-id g l =
    ListedFromEnd IsSound
    (λ entry. record {
      namespace = namespace_name l.namespace;
      id = string_bytes entry.0;
      body = action (action_body RawName (raw_reference (namespace_name l.namespace)) (namespace_name l.namespace) entry.1);
    })
    (λ def. declared_action (uid_of def.uid)
    (action (action_fragment_body g.row.N.Denot (g.N.WrittenName.refer (namespace_name l.namespace)) g.row.N.Denot (g.N.WrittenName.refer (namespace_name l.namespace)) def.fragment)))
    l.fn.written.entries l.defs.items l.written.entries

abbrev pub decreases-loop-id : goal.decreases-loop-id
decreases-loop-id g l = length l.written.entries
