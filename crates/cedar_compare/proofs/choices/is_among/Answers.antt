use Rattle.std.proofs.Common.{sym, ◌∙◌}
use Rattle.cedar_ast.proofs.Texts.{text_cmp-Equal}
use Rattle.cedar_ast.specs.contracts.eid.EidOrd.TheImpl as eid_ord
use Rattle.cedar_compare.proofs.choices.is_among.Goals as goal
use Rattle.cedar_compare.specs.Words.{eid_text}
use Rattle.cedar_name_resolution.proofs.SetLemmas.{found-Decides}

pub returns : goal.returns
returns c =
    let eid = c.args.eid.now in
    let found = found-Decides (eid_ord.ghosts).cmp eid_text (λ a b. text_cmp-Equal (eid_text a) (eid_text b)) c.args.eids.now.keys eid in (
      λ yes. found.0 (sym c.contains.ensures ∙ yes),
      λ among. c.contains.ensures ∙ found.1 among,
    )
