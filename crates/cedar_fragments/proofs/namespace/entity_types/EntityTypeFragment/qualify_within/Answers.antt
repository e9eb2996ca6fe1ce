use Rattle.std.proofs.Common.{ap, sym, refl, inl, inr, map, Contains, Some, ◌≡◌, ◌∙◌, ◌++◌}
use Rattle.std.specs.Option.{option_map}
use Rattle.cedar_fragments.proofs.LocLemmas.{none_in_names}
use Rattle.cedar_fragments.proofs.namespace.entity_types.EntityTypeFragment.qualify_within.Goals as goal
use Rattle.cedar_fragments.specs.Words.{Entity, Expr, HasToResolveIn, Reference, Refers, entity_type, external, fragment_body, held_names, namespace_name, standard, type_expr}
use Rattle.cedar_name_resolution.proofs.ExitLemmas.{exit_holds}
use Rattle.cedar_name_resolution.proofs.RefusedLemmas.{refused_wider}

-- refused parents are among what the entity type refers to
pub returns-in_err-parents-in-Standard-clause-refused : goal.returns-in_err-parents-in-Standard-clause-refused
returns-in_err-parents-in-Standard-clause-refused g c =
    let N = g.row.N.Denot in
    let refer = g.N.WrittenName.refer (namespace_name c.args.namespace) in
    let names = held_names c.args.all_defs.now in
    let it = c.in-Standard in
    let body = standard (map (refer Entity) it.parents.items) (type_expr N refer it.attributes.0) (option_map (type_expr N refer) it.tags) in
    exit_holds _ _ _ (c.from_residual).ensures.1
    (rw (ap (fragment_body N refer) it.is)
    (refused_wider names (Contains (map (refer Entity) it.parents.items)) (HasToResolveIn (entity_type body))
    (λ reference among. inr among) _ (c.in_err-parents-in-Standard).ensures.refused))

-- so are the references of its attributes
pub returns-in_err-attributes-in-Standard-clause-refused : goal.returns-in_err-attributes-in-Standard-clause-refused
returns-in_err-attributes-in-Standard-clause-refused g c =
    let N = g.row.N.Denot in
    let refer = g.N.WrittenName.refer (namespace_name c.args.namespace) in
    let names = held_names c.args.all_defs.now in
    let it = c.in-Standard in
    let body = standard (map (refer Entity) it.parents.items) (type_expr N refer it.attributes.0) (option_map (type_expr N refer) it.tags) in
    exit_holds _ _ _ (c.from_residual-in_err-attributes-in-Standard).ensures.1
    (rw (ap (fragment_body N refer) it.is)
    (refused_wider names (Refers (type_expr N refer it.attributes.0)) (HasToResolveIn (entity_type body))
    (λ reference refers. inl (type_expr N refer it.attributes.0, inl refl, refers)) _ (c.in_err-attributes-in-Standard).ensures.refused))

-- and those of its tags
pub returns-in_err-tags-in-Standard-clause-refused : goal.returns-in_err-tags-in-Standard-clause-refused
returns-in_err-tags-in-Standard-clause-refused g c =
    let N = g.row.N.Denot in
    let refer = g.N.WrittenName.refer (namespace_name c.args.namespace) in
    let names = held_names c.args.all_defs.now in
    let it = c.in-Standard in
    let body = standard (map (refer Entity) it.parents.items) (type_expr N refer it.attributes.0) (option_map (type_expr N refer) it.tags) in
    let RefersInTags : Reference → Type 0 = λ reference. (expr : Expr) × (option_map (type_expr N refer) it.tags ≡ Some expr) × Refers expr reference in
    exit_holds _ _ _ (c.from_residual-in_err-tags-in-Standard).ensures.1
    (rw (ap (fragment_body N refer) it.is)
    (refused_wider names RefersInTags (HasToResolveIn (entity_type body))
    (λ reference found. inl (found.0, inr found.1, found.2)) _ (c.in_err-tags-in-Standard).ensures.refused))

-- the parents of an external entity type too
pub returns-in_err-parents-in-External-clause-refused : goal.returns-in_err-parents-in-External-clause-refused
returns-in_err-parents-in-External-clause-refused g c =
    let N = g.row.N.Denot in
    let refer = g.N.WrittenName.refer (namespace_name c.args.namespace) in
    let names = held_names c.args.all_defs.now in
    let it = c.in-External in
    exit_holds _ _ _ (c.from_residual-in_err-parents-in-External).ensures.1
    (rw (ap (fragment_body N refer) it.is)
    (refused_wider names (Contains (map (refer Entity) it.parents.items))
    (HasToResolveIn (entity_type (external (map (refer Entity) it.parents.items))))
    (λ reference among. inr among) _ (c.in_err-parents-in-External).ensures.refused))

-- attributes and tags keep their locations, and names have none
pub returns-in_ok-tags-in-Standard-clause-locs : goal.returns-in_ok-tags-in-Standard-clause-locs
returns-in_ok-tags-in-Standard-clause-locs g c =
    let it = c.in-Standard in
    let made = (c.in_ok-parents-in-Standard).parents.items in
    let parents = none_in_names made ∙ sym (none_in_names it.parents.items) in
    rw it.is
    (λ i. (c.in_ok-attributes-in-Standard).ensures.locs i ++ parents i ++ (c.in_ok-tags-in-Standard).ensures.locs i)

-- the names of parents have none
pub returns-in_ok-parents-in-External-clause-locs : goal.returns-in_ok-parents-in-External-clause-locs
returns-in_ok-parents-in-External-clause-locs g c =
    let it = c.in-External in
    let made = (c.in_ok-parents-in-External).parents.items in
    rw it.is (none_in_names made ∙ sym (none_in_names it.parents.items))
