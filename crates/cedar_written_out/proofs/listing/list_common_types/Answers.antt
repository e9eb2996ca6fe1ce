use Rattle.cedar_written_out.proofs.ListedLemmas.{lists_common}
use Rattle.cedar_written_out.proofs.listing.list_common_types.Goals as goal

-- one more is listed
pub loop-item_index-preserved : goal.loop-item_index-preserved
loop-item_index-preserved c defined knows after are =
    lists_common defined c.args.scope.now c.args.declared.now after c.loop-item_index.item_index c.index-declared-item_index.result
    c.in_ok-clone.field-0 c.figure_at.result c.args.listed.now.items c.loop-item_index.listed.items c.push.new.self.items knows are
    c.loop-item_index-test.true c.index-declared-item_index.is c.in_ok-clone.ensures.name c.figure_at.ensures
    c.in_ok-push.ensures.items (c.loop-item_index.invariant defined knows after are)
