-- Entity types that are linked, and what is checked of the links.
use Rattle.std.proofs.Common.{◌≡◌, ◌↔◌, List, Option, None, Some, IsSome, sym, subst, inr, Contains}
use Rattle.cedar_ast.specs.contracts.entity_type.EntityTypeEq.TheImpl as entity_type_equal
use Rattle.cedar_builder.proofs.AtKeys.{at_equal_keys}
use Rattle.cedar_builder.specs.Words.{AreLinked, AreTheSame, Chain, EntityType, Fault, IsAbove, IsEdgeSound, IsEnumerated, IsEnumeratedAt, IsExternalAt, IsLinkFault, IsLinkingFault, EntityTypeLeadsTo, PlainEntityType, ValidatorEntityType, external_kind, node_at}

-- an enumerated entity type stands at a key before and after
enumerated_same : (o p : Option ValidatorEntityType) → AreTheSame o p → IsEnumeratedAt o ↔ IsEnumeratedAt p
enumerated_same None None same = (λ there. there, λ there. there)
enumerated_same (Some it) (Some other) same =
    let HasChoices : PlainEntityType → Type 0 = λ each. IsEnumerated each.kind in
    (λ there. subst HasChoices same there, λ there. subst HasChoices (sym same) there)
enumerated_same _ _ same = absurd same

-- an external entity type stands at a key before and after
external_same : (o p : Option ValidatorEntityType) → AreTheSame o p → IsExternalAt o ↔ IsExternalAt p
external_same None None same = (λ there. there, λ there. there)
external_same (Some it) (Some other) same =
    let IsOutside : PlainEntityType → Type 0 = λ each. each.kind ≡ external_kind in
    (λ there. subst IsOutside same there, λ there. subst IsOutside (sym same) there)
external_same _ _ same = absurd same

module _ (edges : List (EntityType × EntityType)) (before : List (EntityType × ValidatorEntityType))
    (sound : (edge : EntityType × EntityType) → Contains edges edge → IsEdgeSound before edge.1 edge.0) where
  -- an edge between entity types that are equal to its own is sound
  above_sound : (upper lower : EntityType) → IsAbove edges upper lower
      → IsSome (node_at before upper) × (¬ IsEnumeratedAt (node_at before lower))
  above_sound upper lower above =
      let edge = above.0 in
      let one = sound edge above.1 in (
        rw (at_equal_keys entity_type_equal.Laws.laws-law before edge.0 upper above.2) at one.stands,
        rw (at_equal_keys entity_type_equal.Laws.laws-law before edge.1 lower above.3) at one.not_enumerated,
      )

  -- the upper entity type of an edge stands in the map
  pub upper_stands : (upper lower : EntityType) → IsAbove edges upper lower → IsSome (node_at before upper)
  upper_stands upper lower above = (above_sound upper lower above).0

  module _ (after : List (EntityType × ValidatorEntityType))
      (same : (key : EntityType) → AreTheSame (node_at before key) (node_at after key))
      (leads : (upper lower : EntityType) → EntityTypeLeadsTo after upper lower ↔ Chain (IsAbove edges) upper lower) where
    -- the nodes are linked, where no external one stands below an enumerated one
    pub are_linked : ((upper lower : EntityType) → EntityTypeLeadsTo after upper lower → IsEnumeratedAt (node_at after upper)
        → ¬ IsExternalAt (node_at after lower)) → AreLinked edges before after
    are_linked checked = record {
      same = same;
      linked = leads;
      ancestors = upper_stands;
      lowers = λ upper lower above. (above_sound upper lower above).1;
      external_above = λ upper lower chain is_enumerated is_external.
          checked upper lower ((leads upper lower).1 chain)
          ((enumerated_same (node_at before upper) (node_at after upper) (same upper)).0 is_enumerated)
          ((external_same (node_at before lower) (node_at after lower) (same lower)).0 is_external);
    }

    -- an external one below an enumerated one is refused truly
    pub below_fault : (upper lower : EntityType) → EntityTypeLeadsTo after upper lower → IsEnumeratedAt (node_at after upper)
        → IsExternalAt (node_at after lower) → (fault : Fault) → IsLinkFault lower upper fault → IsLinkingFault edges before fault
    below_fault upper lower led is_enumerated is_external fault is = inr (inr (
      upper,
      lower,
      (leads upper lower).0 led,
      (enumerated_same (node_at before upper) (node_at after upper) (same upper)).1 is_enumerated,
      (external_same (node_at before lower) (node_at after lower) (same lower)).1 is_external,
      is,
    ))
