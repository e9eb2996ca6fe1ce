use Rattle.cedar_name_resolution.proofs.NamesSoFar.{names_all, names_next}
use Rattle.cedar_name_resolution.specs.Words.{listed_names}
use Rattle.cedar_schema_text_writer.proofs.NamesGiven.{fragment_names}
use Rattle.cedar_schema_text_writer.proofs.known.add_fragments.Goals as goal

pub loop-fragment-preserved : goal.loop-fragment-preserved
loop-fragment-preserved c =
    names_next fragment_names (listed_names c.args.lists.now) (listed_names c.loop-fragment.lists) (listed_names c.add_fragment.new.lists)
    c.args.fragments.now c.loop-fragment.fragment-index c.fragment-item.result c.loop-fragment-test.true c.fragment-item.is c.loop-fragment.invariant
    c.in_ok-add_fragment.ensures

pub returns : goal.returns
returns c =
    names_all fragment_names (listed_names c.args.lists.now) (listed_names c.loop-fragment.lists) c.args.fragments.now c.loop-fragment.fragment-index
    c.loop-fragment-test.false c.loop-fragment.invariant
