use Rattle.std.proofs.Common.{◌≡◌, false, ap, inl, inr, refl, subst, sym}
use Rattle.std.proofs.lemmas.Bool.{false≢true}
use Rattle.cedar_graph.specs.declared.table_fault.TableFault.TheVariants as refused
use Rattle.cedar_validation.proofs.ListedEntries.{closed_plain, lists_plain, none_plain}
use Rattle.cedar_validation.proofs.RequestTypeLemmas.{one_unknown}
use Rattle.cedar_validation.proofs.closing.closed_types.Goals as goal
use Rattle.cedar_validation.specs.Words.{ClosesType, EntityType, Fault, IsListFault, IsValidationFault, IsSchemaFault, TableFault, descendant_names, fault_of, plain_entry, plain_kind, plain_schema, type_graph_fault, type_name}

-- why the closure of entity types is refused is why the schema is
refused_fault : (types : _) (actions : _) (entities : _) (error : TableFault EntityType) (fault : Fault) → fault ≡ type_graph_fault error
    → IsListFault type_name descendant_names types false error → IsValidationFault (plain_schema types actions entities) fault
refused_fault types actions entities (refused.HasCycle key) fault is why = absurd (false≢true why.0)
refused_fault types actions entities (refused.Lacks key) fault is why = inr (λ extensions.
    let schema = plain_schema types actions entities in
    subst (IsSchemaFault extensions schema) (sym is) (one_unknown extensions schema (type_name key) (inr (inl (
      why.0.0,
      lists_plain type_name descendant_names plain_entry (λ it. it.descendants) (λ e. refl) (λ e. refl) types (type_name key) why.0.0 why.0.1,
      none_plain type_name plain_entry (λ e. refl) types (type_name key) why.1,
    )))))
refused_fault types actions entities refused.Memory fault is why = inl is

pub returns-in-Ok-clause-closed : goal.returns-in-Ok-clause-closed
returns-in-Ok-clause-closed c = λ actions entities.
    closed_plain type_name descendant_names plain_entry (λ it. it.descendants) (λ e. refl) (λ e. refl) c.args.types.entries
    _ c.in-Ok.closed.entries c.in-Ok.ensures.closed (ClosesType (plain_schema c.args.types.entries actions entities))
    (λ it other key alike leads. record { key = key; name = ap type_name alike.0; kind = ap plain_kind alike.1; descendants = leads })

pub returns-in-Err-clause-fault : goal.returns-in-Err-clause-fault
returns-in-Err-clause-fault c = λ actions entities.
    refused_fault c.args.types.entries actions entities c.in-Err.refused (fault_of c.type_refusal.result) c.type_refusal.ensures
    c.in-Err.ensures.fault
