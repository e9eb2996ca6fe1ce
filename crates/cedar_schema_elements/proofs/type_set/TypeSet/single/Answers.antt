use Rattle.std.proofs.Common.{◌≡◌, ap, ◌∙◌, [], ◌∷◌, map, ◌++◌}
use Rattle.cedar_schema_elements.proofs.type_set.TypeSet.single.Goals as goal
use Rattle.cedar_schema_elements.specs.Words.{type_name}
use Rattle.cedar_types.proofs.UnionLemmas.{IsStrictlySortedBy-one}

pub invariant_of-result : goal.invariant_of-result
invariant_of-result c =
    let items : c.push.new.self.items ≡ c.args.ty ∷ [] =
    c.in_ok-push.ensures.items ∙ ap (λ types. types ++ c.args.ty ∷ []) c.in_ok-types.ensures.items in
    record {
      sorted = rw (ap (map type_name) items) (IsStrictlySortedBy-one (type_name c.args.ty));
    }
