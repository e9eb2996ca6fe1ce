use Rattle.std.proofs.Common.{subst}
use Rattle.std.proofs.lemmas.Result.{IfOk-weaker}
use Rattle.cedar_ast.proofs.TurnLemmas.{turn_weaker}
use Rattle.cedar_schema_ast.proofs.json_schema.declaration_copies.copied_groups.Goals as goal
use Rattle.cedar_schema_ast.specs.Words.{HoldsPairwise, IsActionReferenceCopy}

pub returns : goal.returns
returns g c =
    let IsCopy = IsActionReferenceCopy g.row.N.Denot g.N.FragmentName.is_alike in
    let groups = c.args.groups.now.items in
    IfOk-weaker c.copied_items.result _ (λ copies. HoldsPairwise IsCopy groups copies.items)
    (λ copies turn. turn_weaker _ IsCopy (λ group copy ran. subst (λ it. IsCopy it copy) ran.shows ran.says.met) groups copies.items turn)
    c.copied_items.ensures
