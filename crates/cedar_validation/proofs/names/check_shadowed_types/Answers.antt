use Rattle.std.proofs.Common.{ap, sym, subst, ◌∙◌, inr}
use Rattle.std.proofs.lemmas.Bool.{false≢true}
use Rattle.std.specs.Map.{keys_of}
use Rattle.cedar_validation.proofs.Checking.{checking_all, checking_here, checking_more, checking_none}
use Rattle.cedar_validation.proofs.Keyed.{key_named, named_key, type_stands}
use Rattle.cedar_validation.proofs.Shadowed.{ShadowsNoType, no_type_shadows}
use Rattle.cedar_validation.proofs.names.check_shadowed_types.Goals as goal
use Rattle.cedar_validation.specs.Words.{HasEntityType, IsReserved, IsUnqualified, PlainName, ShadowsType, name_of, plain_parts, type_name}

-- at first no entity type is checked, and all are left
pub loop-name-init : goal.loop-name-init
loop-name-init c =
    checking_none (ShadowsNoType c.args.parts.now) (keys_of c.args.parts.now.entity_types.entries) _
    (c.into_iter-name-iterator.ensures.into_iter_gives ∙ c.keys-name-items.ensures.rest)

-- the name without the namespace is no entity type of the schema, so nothing shadows this one
pub loop-name-preserved : goal.loop-name-preserved
loop-name-preserved c =
    let parts = c.args.parts.now in
    let absent = λ (there : HasEntityType (plain_parts parts) (type_name c.in_ok-plain.plain)).
    false≢true (sym c.if-contains_key.false
    ∙ (c.contains_key.ensures ∙ (type_stands parts.entity_types.entries c.in_ok-plain.plain).1 there)) in
    checking_more (ShadowsNoType parts) (keys_of parts.entity_types.entries) _ _ c.in-Some.name.now c.in-Some.ensures.steps
    c.loop-name.invariant
    (no_type_shadows parts c.in-Some.name.now (type_name c.in_ok-plain.plain) c.in_ok-plain.ensures.base c.in_ok-plain.ensures.path absent)

-- a name without a namespace can't be shadowed
pub loop-name-preserved-then-is_unqualified : goal.loop-name-preserved-then-is_unqualified
loop-name-preserved-then-is_unqualified c =
    let parts = c.args.parts.now in
    checking_more (ShadowsNoType parts) (keys_of parts.entity_types.entries) _ _ c.in-Some.name.now c.in-Some.ensures.steps
    c.loop-name.invariant
    (λ plain among shadows. shadows.1 (ap (λ (it : PlainName). it.path) (sym c.name.ensures.name)
    ∙ c.is_unqualified.ensures.0 c.if-is_unqualified.true))

-- each entity type is a key of the table, and all keys were checked
pub returns-clause-sound : goal.returns-clause-sound
returns-clause-sound c = λ plain qualified among_plain among.
    let types = c.args.parts.now.entity_types.entries in
    let key = named_key types qualified among in
    let P : PlainName → Type 0 = λ it. ¬ ShadowsType plain it in
    subst P key.2
    (checking_all (ShadowsNoType c.args.parts.now) (keys_of types) _ c.in-None.ensures.steps.0 c.loop-name.invariant key.0 key.1
    plain among_plain)

-- both names are entity types of the schema, and the one without a namespace shadows the other
pub returns-then-contains_key-clause-fault : goal.returns-then-contains_key-clause-fault
returns-then-contains_key-clause-fault c =
    let parts = c.args.parts.now in
    let key = c.in-Some.name.now in
    let plain = c.in_ok-plain.plain in
    let among =
    checking_here (ShadowsNoType parts) (keys_of parts.entity_types.entries) _ _ key c.in-Some.ensures.steps c.loop-name.invariant in
    let there = (type_stands parts.entity_types.entries plain).0 (sym c.contains_key.ensures ∙ c.if-contains_key.true) in
    let qualified = λ (is : IsUnqualified (type_name key)). false≢true (sym c.if-is_unqualified.false
    ∙ c.is_unqualified.ensures.1 (ap (λ (it : PlainName). it.path) c.name.ensures.name ∙ is)) in
    let unreserved = λ (is : IsReserved (type_name key)).
    let R : PlainName → Type 0 = IsReserved in
    c.as_internal.ensures.unreserved (subst R (sym (c.as_internal.ensures.name ∙ c.name-then-contains_key.ensures.name)) is) in
    let shadows : ShadowsType (type_name plain) (type_name key) =
    (c.in_ok-plain.ensures.path, qualified, unreserved, c.in_ok-plain.ensures.base) in
    let P : PlainName → PlainName → Type 0 = λ one other. HasEntityType (plain_parts parts) one
    × HasEntityType (plain_parts parts) other × ShadowsType one other in
    let Q : PlainName → Type 0 = λ other. P (type_name plain) other in
    let R : PlainName → Type 0 = λ one. P one (name_of c.in_ok-name.name) in
    inr (λ extensions. subst R (sym (c.into_internal.ensures.name ∙ c.into_name.ensures.name))
    (subst Q (sym (c.in_ok-name.ensures.name ∙ (c.as_internal.ensures.name ∙ c.name-then-contains_key.ensures.name)))
    (there, key_named parts.entity_types.entries key among, shadows)))
