use Rattle.std.proofs.Common.{List, ap, map, subst, sym, ◌∙◌}
use Rattle.std.specs.List.Sorted.{IsStrictlySortedBy}
use Rattle.cedar_schema.proofs.SchemaKeys.{agreed_on}
use Rattle.cedar_schema.proofs.SchemaNames.{type_keys_ascend}
use Rattle.cedar_schema.proofs.schema.ValidatorSchema.entity_type_names.Goals as goal
use Rattle.cedar_schema.specs.Words.{EntityType, name_cmp, schema_entries, type_loc, type_name}
use Rattle.cedar_schema_elements.specs.ValidatorEntityType.{name_loc}

pub returns-clause-in_order : goal.returns-clause-in_order
returns-clause-in_order c =
    let P : List EntityType → Type 0 = λ names. IsStrictlySortedBy name_cmp (map type_name names) in
    let rest = rw c.content.ensures at c.keys.ensures.rest in
    subst P (sym rest) (type_keys_ascend c.args.self.now)

pub returns-clause-located : goal.returns-clause-located
returns-clause-located c =
    ap (map type_loc) (rw c.content.ensures at c.keys.ensures.rest)
    ∙ agreed_on (λ entry. entry.0) type_loc (λ entry. name_loc entry.1) (schema_entries c.args.self.now) c.args.self.now.content.types_located
