use Rattle.cedar_written_out.proofs.ListedLemmas.{measured_all}
use Rattle.cedar_written_out.proofs.ListedParts.{lists_context}
use Rattle.cedar_written_out.proofs.listing.list_action.Goals as goal
use Rattle.cedar_written_out.specs.Words.{namespace_name, written_namespace}

-- the context is listed
pub returns : goal.returns
returns c defined knows =
    let written = c.args.written.now in
    lists_context defined written c.in-Some.requests c.in-Some.is c.args.uid.now c.in_ok-clone.field-0 c.in_ok-clone.ensures.uid c.in_ok-measure.field-0
    (measured_all defined c.args.scope.now (namespace_name c.namespace.result) (written_namespace written) _ c.in_ok-measure.field-0 c.namespace.ensures
    knows c.in_ok-measure.ensures)
    c.args.listed.now.items c.push.new.self.items c.in_ok-push.ensures.items
