use Rattle.std.proofs.Common.{◌≡◌, ap, ◌∙◌, [], ◌∷◌, map, ◌++◌}
use Rattle.cedar_ast.specs.EntityType.{type_name}
use Rattle.cedar_types.proofs.UnionLemmas.{IsStrictlySortedBy-one}
use Rattle.cedar_types.proofs.entity_lub.EntityLUB.single_entity.Goals as goal

pub invariant_of-result-clause-sorted : goal.invariant_of-result-clause-sorted
invariant_of-result-clause-sorted c =
    let items : c.new.result.value.items ≡ c.args.ty ∷ [] =
    ap (λ v. v.items) c.new.ensures.value ∙ (c.in_ok-push.ensures.items
    ∙ ap (λ types. types ++ c.args.ty ∷ []) c.in_ok-lub_elements.ensures.items) in
    rw (ap (map type_name) items) (IsStrictlySortedBy-one (type_name c.args.ty))
