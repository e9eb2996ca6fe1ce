use Rattle.std.proofs.Common.{List, map, subst, sym}
use Rattle.std.specs.List.Sorted.{IsStrictlySortedBy}
use Rattle.cedar_schema.proofs.SchemaNames.{type_names_ascend}
use Rattle.cedar_schema.proofs.schema.ValidatorSchema.entity_types.Goals as goal
use Rattle.cedar_schema.specs.Words.{ValidatorEntityType, entity_type_of, name_cmp}

pub returns-clause-in_order : goal.returns-clause-in_order
returns-clause-in_order c =
    let P : List ValidatorEntityType → Type 0 = λ types. IsStrictlySortedBy name_cmp (map (λ it. (entity_type_of it).name) types) in
    let rest = rw c.content.ensures at c.values.ensures.rest in
    subst P (sym rest) (type_names_ascend c.args.self.now)
