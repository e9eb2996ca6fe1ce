use Rattle.std.proofs.Common.{List, map, subst}
use Rattle.cedar_schema_elements.proofs.sets.type_set.Goals as goal
use Rattle.cedar_schema_elements.specs.Words.{EntityType, SameItems, set_names, type_name}

pub returns : goal.returns
returns g c =
    let ran = c.in_ok-from_iter.ensures.ran in
    let ends = ran.3.2 tt in
    let P : List EntityType → Type 0 = λ types. SameItems (set_names c.of.result) (map type_name types) in
    (ran.0, ran.1, ran.2, (ends.0, (ran.3.0, ran.3.1, ends.1)), subst P ran.4.0 c.of.ensures)
