use Rattle.std.proofs.Common.{subst}
use Rattle.cedar_ast.proofs.TurnLemmas.{both_weaker}
use Rattle.cedar_schema_ast.proofs.json_schema.entity_type.StandardEntityType.clone.Goals as goal
use Rattle.cedar_schema_ast.specs.Copies.{IsTypeCopy}

pub returns : goal.returns
returns g c =
    let IsCopy = IsTypeCopy g.row.N.Denot g.N.FragmentName.is_alike in
    record {
      member_of_types = c.in_ok-copied_names.ensures;
      shape = c.in_ok-clone.ensures;
      tags = both_weaker _ IsCopy (λ ty copy ran. subst (λ it. IsCopy it copy) ran.shows (ran.says.met.0, ran.says.met.1)) _ _
          c.in_ok-copied_option.ensures;
    }
