use Rattle.cedar_written_out.proofs.ListedLemmas.{measured_all}
use Rattle.cedar_written_out.proofs.ListedParts.{lists_shape, lists_tags}
use Rattle.cedar_written_out.proofs.listing.list_entity_type.Goals as goal
use Rattle.cedar_written_out.specs.Words.{namespace_name, written_namespace}

-- the shape is listed, and then the type of the tags
pub returns-in_ok-push-2 : goal.returns-in_ok-push-2
returns-in_ok-push-2 c defined knows =
    let scope = c.args.scope.now in
    let written = c.args.written.now in
    lists_tags defined written c.in-Standard.attributes c.in-Standard.parents c.in-Standard.tags c.in-Standard.is c.args.name.now
    c.in_ok-clone.field-0 c.in_ok-clone.ensures.name c.in_ok-measure.field-0
    (measured_all defined scope (namespace_name c.namespace.result) (written_namespace written) _ c.in_ok-measure.field-0 c.namespace.ensures knows
    c.in_ok-measure.ensures)
    c.args.listed.now.items c.push.new.self.items c.in_ok-push.ensures.items
    c.in-Some.ty c.in-Some.is c.in_ok-clone-2.field-0 c.in_ok-clone-2.ensures.name c.in_ok-measure-2.field-0
    (measured_all defined scope (namespace_name c.namespace-in-Some.result) (written_namespace written) _ c.in_ok-measure-2.field-0
    c.namespace-in-Some.ensures knows c.in_ok-measure-2.ensures)
    c.push-in-Some.new.self.items c.in_ok-push-2.ensures.items

-- where there are none, the shape is all
pub returns-in_default-tags : goal.returns-in_default-tags
returns-in_default-tags c defined knows =
    let written = c.args.written.now in
    lists_shape defined written c.in-Standard.attributes c.in-Standard.parents c.in-Standard.tags c.in-Standard.is c.args.name.now
    c.in_ok-clone.field-0 c.in_ok-clone.ensures.name c.in_ok-measure.field-0
    (measured_all defined c.args.scope.now (namespace_name c.namespace.result) (written_namespace written) _ c.in_ok-measure.field-0 c.namespace.ensures
    knows c.in_ok-measure.ensures)
    c.args.listed.now.items c.push.new.self.items c.in_ok-push.ensures.items c.in_default-tags.is
