use Rattle.std.proofs.Common.{◌≡◌, Some, sym, inl, inr, ◌∙◌, Contains}
use Rattle.std.proofs.lemmas.Bool.{false≢true}
use Rattle.std.proofs.lemmas.List.Elements.{All-contains_itself}
use Rattle.std.proofs.lemmas.Map.Iter.{iter_end}
use Rattle.std.proofs.lemmas.Map.Views.{All-turn}
use Rattle.std.specs.Map.Iter.{deref_pair}
use Rattle.cedar_ast.specs.contracts.entity_type.EntityTypeOrd.TheImpl as entity_type_ord
use Rattle.cedar_builder.proofs.EntityTypeChecks.{certain_of_all, entry_enumerated, entry_leads, entry_stands, shown_more}
use Rattle.cedar_builder.proofs.entity_type_checks.check_descendants.Goals as goal
use Rattle.cedar_builder.specs.Words.{EntityType, IsEnumerated, IsExternalAt, ValidatorEntityType, entity_type_of, keys_of, node_at}
use Rattle.cedar_graph.proofs.TableClosing.{distinct_keys}
use Rattle.cedar_name_resolution.proofs.ExitLemmas.{exit_holds}

abbrev Entry : Type 0
Entry = EntityType × ValidatorEntityType

-- the entity type at fault is enumerated, and a descendant of it is external
pub returns-in_err-check_below-clause-fault : goal.returns-in_err-check_below-clause-fault
returns-in_err-check_below-clause-fault c =
    let nodes = c.args.nodes.now.entries in
    let name = c.in-Some.name.now in
    let it = c.in-Some.ty.now in
    let gives = c.into_iter-name-iterator.ensures.into_iter_gives in
    let among : Contains nodes (name, it) =
    All-turn deref_pair (Contains nodes) nodes c.loop-name.yielded _ _ _ _ (c.in-Some.name, c.in-Some.ty)
    (All-contains_itself nodes) gives.0 c.loop-name.yielded_by c.in-Some.is c.next.ensures.steps in
    let found : node_at nodes name ≡ Some it = entry_stands nodes (distinct_keys (entity_type_ord.ghosts).cmp entity_type_ord.Laws.matches_eq-law (keys_of nodes) gives.1) name it among in
    exit_holds _ _ _ c.from_residual.ensures.1
    (elim c.in_err-check_below.ensures.fault [
      | inl wanting ↦ inl wanting
      | inr below ↦ inr (
        name,
        below.0,
        entry_leads nodes name it found below.0 below.1,
        entry_enumerated nodes name it found (c.is_enumerated.ensures.0 c.if-is_enumerated.true),
        below.2,
        below.3,
      )
    ])

-- one more entity type is not enumerated
pub loop-name-preserved : goal.loop-name-preserved
loop-name-preserved c = λ upper it.
    shown_more deref_pair (λ (entry : Entry). IsEnumerated (entity_type_of entry.1).kind → (lower : EntityType)
    → Contains entry.1.descendants.keys lower → ¬ IsExternalAt (node_at c.args.nodes.now.entries lower)) c.loop-name.yielded
    (c.in-Some.name, c.in-Some.ty) (λ entry. c.loop-name.invariant entry.0 entry.1)
    (λ is. absurd (false≢true (sym c.if-is_enumerated.false ∙ c.is_enumerated.ensures.1 is))) (upper, it)

-- or it has no external descendant
pub loop-name-preserved-in-Continue-1 : goal.loop-name-preserved-in-Continue-1
loop-name-preserved-in-Continue-1 c = λ upper it.
    shown_more deref_pair (λ (entry : Entry). IsEnumerated (entity_type_of entry.1).kind → (lower : EntityType)
    → Contains entry.1.descendants.keys lower → ¬ IsExternalAt (node_at c.args.nodes.now.entries lower)) c.loop-name.yielded
    (c.in-Some.name, c.in-Some.ty) (λ entry. c.loop-name.invariant entry.0 entry.1)
    (λ is. c.in_ok-check_below.ensures.sound) (upper, it)

-- at the end all entity types are seen
pub returns-clause-sound : goal.returns-clause-sound
returns-clause-sound c =
    let nodes = c.args.nodes.now.entries in
    let all = (iter_end deref_pair nodes c.loop-name.yielded _ _ _ _ c.into_iter-name-iterator.ensures.into_iter_gives.0
    c.loop-name.yielded_by c.in-None.is c.next.ensures.steps).0 in
    certain_of_all nodes (rw all at c.loop-name.invariant)
