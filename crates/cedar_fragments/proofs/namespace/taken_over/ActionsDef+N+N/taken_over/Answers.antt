use Rattle.std.proofs.Common.{◌∙◌, ap, string_bytes}
use Rattle.std.specs.Option.{is_some}
use Rattle.cedar_ast.proofs.Basics.{Contains-image}
use Rattle.cedar_fragments.proofs.AttributeLemmas.{has_none}
use Rattle.cedar_fragments.proofs.DeclaredAsLemmas.{declared_action-within}
use Rattle.cedar_fragments.proofs.ListedFromEnd.{ListedFromEnd-more, ListedFromEnd-none, around_next, each_from_end, next_from_end, none_left, same_from_end}
use Rattle.cedar_fragments.proofs.SoundLemmas.{fault_of_action, uid_unreserved}
use Rattle.cedar_fragments.proofs.namespace.taken_over.ActionsDef+N+N.taken_over.Goals as goal
use Rattle.cedar_fragments.specs.Words.{RawName, action, action_body, action_declarations, namespace_name, raw_reference}
use Rattle.cedar_name_resolution.proofs.ExitLemmas.{exit_holds}

-- actions with attributes are a fault
pub returns-in_err-refuse_attributes-clause-fault : goal.returns-in_err-refuse_attributes-clause-fault
returns-in_err-refuse_attributes-clause-fault g c =
    exit_holds _ _ _ c.from_residual.ensures.1
    (c.in_err-refuse_attributes.ensures.fault (namespace_name c.args.namespace))

-- all that have attributes are named
pub returns-in_err-refuse_attributes-clause-all_named : goal.returns-in_err-refuse_attributes-clause-all_named
returns-in_err-refuse_attributes-clause-all_named g c =
    exit_holds _ _ _ c.from_residual.ensures.1
    (c.in_err-refuse_attributes.ensures.all_named (namespace_name c.args.namespace))

-- at first no action is converted
pub loop-id-init : goal.loop-id-init
loop-id-init g c =
    ListedFromEnd-none _ _ _ _ _ c.in_ok-defs.ensures.items

-- a refused uid is a fault of the declarations
pub returns-in_err-uid-clause-fault : goal.returns-in_err-uid-clause-fault
returns-in_err-uid-clause-fault g c =
    let namespace = namespace_name c.args.namespace in
    let bag = action_declarations RawName (raw_reference namespace) namespace c.args.written.entries in
    exit_holds _ _ _ c.from_residual-in_err-uid.ensures.1
    (fault_of_action bag namespace (string_bytes c.in-Some.id)
    (action_body RawName (raw_reference namespace) namespace c.in-Some.declared) _
    (Contains-image _ c.args.written.entries (c.in-Some.id, c.in-Some.declared)
    (next_from_end _ _ _ _ _ c.pop_last.new.self.entries _ (c.in-Some.id, c.in-Some.declared) c.in-Some.ensures.removal c.loop-id.invariant))
    _ c.in_ok-ty.ensures c.in_err-uid.ensures.fault)

-- no action has attributes, as none was listed
pub taken_over-requires : goal.taken_over-requires
taken_over-requires g c =
    has_none c.args.written.entries c.pop_last.new.self.entries _ (c.in-Some.id, c.in-Some.declared) c.in_ok-refuse_attributes.ensures.none
    (around_next _ _ _ _ _ c.pop_last.new.self.entries _ (c.in-Some.id, c.in-Some.declared) c.in-Some.ensures.removal c.loop-id.invariant)

-- one more action is converted, and it is sound
pub loop-id-preserved : goal.loop-id-preserved
loop-id-preserved g c =
    let namespace = namespace_name c.args.namespace in
    let lacks = has_none c.args.written.entries c.pop_last.new.self.entries _ (c.in-Some.id, c.in-Some.declared) c.in_ok-refuse_attributes.ensures.none
    (around_next _ _ _ _ _ c.pop_last.new.self.entries _ (c.in-Some.id, c.in-Some.declared) c.in-Some.ensures.removal c.loop-id.invariant) in
    ListedFromEnd-more _ _ _ _ _ c.pop_last.new.self.entries _ _ (c.in-Some.id, c.in-Some.declared) _ c.in-Some.ensures.removal
    c.in_ok-push.ensures.items
    (declared_action-within namespace (string_bytes c.in-Some.id)
    (action (action_body RawName (raw_reference namespace) namespace c.in-Some.declared)) _ _ (c.in_ok-uid.ensures.ty ∙ c.in_ok-ty.ensures)
    c.in_ok-uid.ensures.eid (ap action c.in_ok-fragment.ensures))
    (ap is_some lacks, uid_unreserved (namespace_name c.args.namespace) _ c.in_ok-ty.ensures c.in_ok-uid.ensures.unreserved) c.loop-id.invariant

-- at the end all are converted
pub returns-clause-declarations : goal.returns-clause-declarations
returns-clause-declarations g c =
    same_from_end _ _ _ _ _ _ _ (none_left c.loop-id.written.entries c.in_default.ensures.variant.1) c.reverse.ensures.items c.loop-id.invariant

-- and each is sound
pub returns-clause-sound : goal.returns-clause-sound
returns-clause-sound g c = each_from_end _ _ _ _ _ _ (none_left c.loop-id.written.entries c.in_default.ensures.variant.1) c.loop-id.invariant
