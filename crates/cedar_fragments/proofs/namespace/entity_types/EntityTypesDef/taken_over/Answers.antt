use Rattle.std.proofs.Common.{ap}
use Rattle.cedar_ast.proofs.Basics.{Contains-image}
use Rattle.cedar_fragments.proofs.DeclaredAsLemmas.{declared_as-within}
use Rattle.cedar_fragments.proofs.ListedFromEnd.{ListedFromEnd-more, ListedFromEnd-none, each_from_end, next_from_end, none_left, same_from_end}
use Rattle.cedar_fragments.proofs.SoundLemmas.{fault_of_entity, name_names_none}
use Rattle.cedar_fragments.proofs.namespace.entity_types.EntityTypesDef.taken_over.Goals as goal
use Rattle.cedar_fragments.specs.Words.{RawName, entity_declarations, entity_type, namespace_name, raw_entity_body, raw_reference, unreserved_id_text}
use Rattle.cedar_name_resolution.proofs.ExitLemmas.{exit_holds}

-- at first no entity type is converted
pub loop-id-init : goal.loop-id-init
loop-id-init g c =
    ListedFromEnd-none _ _ _ _ _ c.in_ok-defs.ensures.items

-- a refused name is a fault of the declarations
pub returns-in_err-name-clause-fault : goal.returns-in_err-name-clause-fault
returns-in_err-name-clause-fault g c =
    let namespace = namespace_name c.args.namespace in
    let bag = entity_declarations RawName (raw_reference namespace) namespace c.args.written.entries in
    exit_holds _ _ _ c.from_residual-in_err-name.ensures.1
    (fault_of_entity bag namespace (unreserved_id_text c.in-Some.id) (raw_entity_body namespace c.in-Some.declared) _
    (Contains-image _ c.args.written.entries (c.in-Some.id, c.in-Some.declared)
    (next_from_end _ _ _ _ _ c.pop_last.new.self.entries _ (c.in-Some.id, c.in-Some.declared) c.in-Some.ensures.removal c.loop-id.invariant))
    c.in_err-name.ensures.fault)

-- it names no actions
pub returns-in_err-name-clause-no_actions : goal.returns-in_err-name-clause-no_actions
returns-in_err-name-clause-no_actions g c =
    exit_holds _ _ _ c.from_residual-in_err-name.ensures.1 (name_names_none _ _ _ _ c.in_err-name.ensures.fault)

-- one more entity type is converted, and it is sound
pub loop-id-preserved : goal.loop-id-preserved
loop-id-preserved g c =
    let namespace = namespace_name c.args.namespace in
    ListedFromEnd-more _ _ _ _ _ c.pop_last.new.self.entries _ _ (c.in-Some.id, c.in-Some.declared) _ c.in-Some.ensures.removal
    c.in_ok-push.ensures.items
    (declared_as-within namespace (unreserved_id_text c.in-Some.id)
    (entity_type (raw_entity_body namespace c.in-Some.declared)) _ _ c.in_ok-name.ensures.name
    (ap entity_type c.in_ok-fragment.ensures))
    (c.in_ok-name.ensures.no_action, c.in_ok-name.ensures.unreserved) c.loop-id.invariant

-- at the end all are converted
pub returns-clause-declarations : goal.returns-clause-declarations
returns-clause-declarations g c =
    same_from_end _ _ _ _ _ _ _ (none_left c.loop-id.written.entries c.in_default.ensures.variant.1) c.reverse.ensures.items c.loop-id.invariant

-- and each is sound
pub returns-clause-sound : goal.returns-clause-sound
returns-clause-sound g c = each_from_end _ _ _ _ _ _ (none_left c.loop-id.written.entries c.in_default.ensures.variant.1) c.loop-id.invariant
