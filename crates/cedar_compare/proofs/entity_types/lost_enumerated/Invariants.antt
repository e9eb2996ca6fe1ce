use Rattle.std.proofs.Common.{All, take}
use Rattle.cedar_compare.proofs.entity_types.lost_enumerated.Given as goal
use Rattle.cedar_compare.specs.Words.{IsEntityIn, bare_entity, eid_text, new_of, type_name}

abbrev pub invariant-loop-eid : goal.invariant-loop-eid
invariant-loop-eid l = record {
  head : IsEntityIn l.versions.extensions.now (new_of l.versions) (bare_entity (type_name l.name) (eid_text l.choices.head));
  tail : All (λ eid. IsEntityIn l.versions.extensions.now (new_of l.versions) (bare_entity (type_name l.name) (eid_text eid)))
      (take l.eid-index l.eid-items);
}
