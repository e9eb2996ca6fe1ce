use Rattle.std.proofs.Common.{ap, ◌∙◌, subst}
use Rattle.cedar_ast.specs.Words.{IsReserved, id_text}
use Rattle.cedar_diagnosis.proofs.NameLemmas.{within_unreserved}
use Rattle.cedar_diagnosis.proofs.lent.Lent.type_within.Goals as goal
use Rattle.cedar_schema_ast.specs.Words.{name_within}

-- a name in a namespace isn't reserved
pub unreachable-requires : goal.unreachable-requires
unreachable-requires c =
    let id = id_text c.args.id in
    within_unreserved c.args.self.now.namespace.now id c.requires
    (subst IsReserved (c.in_ok-name.ensures.name ∙ ap (λ namespace. name_within namespace id) c.namespace.ensures) c.in-Err.ensures.refused.1)
