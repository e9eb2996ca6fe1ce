use Rattle.cedar_fragments.proofs.CollectedMore.{gather_more}
use Rattle.cedar_fragments.proofs.collected_declarations.CollectedDeclarations.with.Goals as goal

pub returns : goal.returns
returns g c = λ fragments so_far.
    gather_more g.row.N.Denot g.N.WrittenName.refer fragments c.args.fragment c.args.self _ c.in_ok-add_fragment.ensures
    c.in_ok-add_fragment-2.ensures so_far
