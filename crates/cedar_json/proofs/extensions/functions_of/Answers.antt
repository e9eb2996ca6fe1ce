use Rattle.std.proofs.Common.{[], rules}
use Rattle.cedar_json.proofs.ExtensionLemmas.{all_put, row_at, row_more}
use Rattle.cedar_json.proofs.extensions.functions_of.Goals as goal
use Rattle.cedar_json.specs.Words.{Row, Truth}

abbrev blank : Row
blank = record { name = record { ref_ptr = (0, 0); now = [] }; arguments = record { ref_ptr = (0, 0); now = [] }; result = Truth }

pub function_of-requires : goal.function_of-requires
function_of-requires c = (row_at c.args.rows.now c.loop-row.row-index blank c.loop-row-test.true c.loop-row.invariant.left).0

pub spelled-requires : goal.spelled-requires
spelled-requires c = (row_at c.args.rows.now c.loop-row.row-index blank c.loop-row-test.true c.loop-row.invariant.left).0.0

pub loop-row-preserved : goal.loop-row-preserved
loop-row-preserved c = record {
  made = row_more c.args.rows.now c.loop-row.row-index blank c.loop-row.all.entries c.put.new.map.entries c.in_ok-name.name
      c.in_ok-function_of.field-0 c.loop-row-test.true c.loop-row.invariant.made c.in_ok-name.ensures c.in_ok-function_of.ensures (search rules);
  left = (row_at c.args.rows.now c.loop-row.row-index blank c.loop-row-test.true c.loop-row.invariant.left).1;
}

pub returns : goal.returns
returns c = all_put c.args.rows.now c.loop-row.row-index c.loop-row.all.entries c.loop-row-test.false c.loop-row.invariant.made
