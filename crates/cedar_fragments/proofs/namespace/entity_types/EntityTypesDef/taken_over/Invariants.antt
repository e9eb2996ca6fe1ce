use Rattle.std.proofs.Common.{length}
use Rattle.cedar_fragments.proofs.ListedFromEnd.{ListedFromEnd}
use Rattle.cedar_fragments.proofs.namespace.entity_types.EntityTypesDef.taken_over.Given as goal
use Rattle.cedar_fragments.specs.Words.{IsSound, declared_as, entity_type, fragment_body, namespace_name, raw_entity_body, type_name, unreserved_id_text}

abbrev pub invariant-loop-id : goal.invariant-loop-id
invariant-loop-id g l =
    ListedFromEnd IsSound
    (λ entry. record {
      namespace = namespace_name l.namespace;
      id = unreserved_id_text entry.0;
      body = entity_type (raw_entity_body (namespace_name l.namespace) entry.1);
    })
    (λ def. declared_as (type_name def.name) (entity_type (fragment_body g.row.N.Denot (g.N.WrittenName.refer (namespace_name l.namespace)) def.fragment)))
    l.fn.written.entries l.defs.items l.written.entries

abbrev pub decreases-loop-id : goal.decreases-loop-id
decreases-loop-id g l = length l.written.entries
