use Rattle.std.proofs.Common.{length}
use Rattle.std.specs.Prelude.{⊤}
use Rattle.cedar_fragments.proofs.ListedFromEnd.{ListedFromEnd}
use Rattle.cedar_fragments.proofs.namespace.common_types.CommonTypeDefs.taken_over.Given as goal
use Rattle.cedar_fragments.specs.Words.{RawName, common_type, common_type_text, declared_as, located_name, name_of, name_within, namespace_name, raw_reference, type_expr}

abbrev pub invariant-loop-id : goal.invariant-loop-id
invariant-loop-id g l =
    ListedFromEnd (λ _. ⊤)
    (λ entry. record {
      namespace = namespace_name l.namespace;
      id = common_type_text entry.0;
      body = common_type (type_expr RawName (raw_reference (namespace_name l.namespace)) entry.1.ty);
    })
    (λ def. declared_as (name_of def.name) (common_type (type_expr g.row.N.Denot (g.N.WrittenName.refer (namespace_name l.namespace)) def.ty)))
    l.fn.written.entries l.defs.items l.written.entries
    × ListedFromEnd (λ _. ⊤)
    (λ entry. record {
      name = name_within (namespace_name l.namespace) (common_type_text entry.0);
      loc = entry.1.loc;
    })
    (λ def. located_name def.name) l.fn.written.entries l.defs.items l.written.entries

abbrev pub decreases-loop-id : goal.decreases-loop-id
decreases-loop-id g l = length l.written.entries
