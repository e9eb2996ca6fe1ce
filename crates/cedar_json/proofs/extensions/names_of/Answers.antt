use Rattle.std.proofs.Common.{[], Bor}
use Rattle.cedar_json.proofs.ExtensionLemmas.{all_named, name_at, name_more}
use Rattle.cedar_json.proofs.extensions.names_of.Goals as goal
use Rattle.cedar_json.specs.Words.{Text}

abbrev blank : Bor Text
blank = record { ref_ptr = (0, 0); now = [] }

-- the text at an index can be spelled
pub spelled-requires : goal.spelled-requires
spelled-requires c = (name_at c.args.texts.now c.loop-text.text-index blank c.loop-text-test.true c.loop-text.invariant.left).0

-- one more text is spelled, and its name is put behind the others
pub loop-text-preserved : goal.loop-text-preserved
loop-text-preserved c = record {
  made = name_more c.args.texts.now c.loop-text.text-index blank c.loop-text.names.items c.push.new.self.items c.in_ok-spelled.field-0
      c.loop-text-test.true c.loop-text.invariant.made c.in_ok-spelled.ensures c.in_ok-push.ensures.items;
  left = (name_at c.args.texts.now c.loop-text.text-index blank c.loop-text-test.true c.loop-text.invariant.left).1;
}

-- where no text is left, all were spelled
pub returns : goal.returns
returns c = all_named c.args.texts.now c.loop-text.text-index c.loop-text.names.items c.loop-text-test.false c.loop-text.invariant.made
