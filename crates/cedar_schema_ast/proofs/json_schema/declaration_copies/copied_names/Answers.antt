use Rattle.std.proofs.Common.{subst}
use Rattle.std.proofs.lemmas.Result.{IfOk-weaker}
use Rattle.cedar_ast.proofs.TurnLemmas.{turn_weaker}
use Rattle.cedar_ast.specs.Lists.{HoldsPairwise}
use Rattle.cedar_schema_ast.proofs.json_schema.declaration_copies.copied_names.Goals as goal

pub returns : goal.returns
returns g c =
    let alike = g.N.FragmentName.is_alike in
    let names = c.args.names.now.items in
    IfOk-weaker c.copied_items.result _ (λ copies. HoldsPairwise alike names copies.items)
    (λ copies turn. turn_weaker _ alike (λ name copy ran. subst (λ it. alike it copy) ran.shows ran.says.met) names copies.items turn)
    c.copied_items.ensures
