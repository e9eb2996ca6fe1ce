use Rattle.std.proofs.Common.{ap, length, sym, ◌∙◌}
use Rattle.std.proofs.lemmas.Bool.{false≢true}
use Rattle.cedar_ast.proofs.Names.{entity_type_eq-same}
use Rattle.cedar_compare.proofs.entity_types.length_apart.Goals as goal

pub returns-then-eq : goal.returns-then-eq
returns-then-eq c = λ _. ap length (c.as_str.ensures ∙ c.eid.ensures)

-- a uid of another type has no length to exceed
pub returns-else-eq : goal.returns-else-eq
returns-else-eq c = λ named. absurd (false≢true (sym c.if-eq.false ∙ (c.eq.ensures
    ∙ (entity_type_eq-same c.entity_type.result.now c.args.name.now).1 (c.entity_type.ensures.name ∙ named))))
