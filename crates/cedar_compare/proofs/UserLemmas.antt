-- Schemas of one entity type.
use Rattle.std.proofs.Common.{◌≡◌, [], Contains, ap, arith, inl, refl, subst, sym, ⊎_elim}
use Rattle.cedar_ast.proofs.Basics.{Contains-none, Contains-single}
use Rattle.cedar_ast.proofs.Lists.{Contains-cons}
use Rattle.cedar_compare.specs.Words.{ActionEntity, EntityTypeKind, Exists, Extensions, IsEntityIn, IsEntityOfKind, IsEntityOfType, IsIdOf, IsName, IsReal, IsStandard, IsText, Keeps, KeepsUids, LosesEntityType, MayStandAbove, PlainName, PlainUid, SchemaEntityType, Text, no_entry, standard_kind, user, user_of, users}

-- the schema's entity type is of its kind
pub user_kind : (kind : EntityTypeKind) (name : PlainName) (ty : SchemaEntityType) → Contains (users kind).entity_types (name, ty)
    → (user ≡ name) × (user_of kind ≡ ty)
user_kind kind name ty among =
    let same = Contains-single (user, user_of kind) (name, ty) among in
    (ap (λ (it : PlainName × SchemaEntityType). it.0) same, ap (λ (it : PlainName × SchemaEntityType). it.1) same)

-- nothing may stand above entities of the schema's type
pub nothing_above : (kind : EntityTypeKind) (name : PlainName) (upper : PlainUid) → ¬ MayStandAbove (users kind) name upper
nothing_above kind name upper above =
    let ty = (user_kind kind upper.ty above.0 above.1).1 in
    Contains-none name (subst (λ (it : SchemaEntityType). Contains it.descendants name) (sym ty) above.2)

-- an entity of the schema is of its kind
pub entity_of_kind : (extensions : Extensions) (kind : EntityTypeKind) (it : ActionEntity) → IsEntityIn extensions (users kind) it
    → (user ≡ it.uid.ty) × IsEntityOfKind extensions (users kind) kind it
entity_of_kind extensions kind it among =
    ⊎_elim
    (λ of. (let same = user_kind kind it.uid.ty of.0 of.1 in
    (same.0, subst (λ (ty : SchemaEntityType). IsEntityOfKind extensions (users kind) ty.kind it) (sym same.1) of.2)))
    (λ action. absurd (Contains-none (it.uid, action.defined.0) action.defined.1))
    among

-- what is of the kind is an entity of the schema
pub kind_of_entity : (extensions : Extensions) (kind : EntityTypeKind) (it : ActionEntity) → user ≡ it.uid.ty
    → IsEntityOfKind extensions (users kind) kind it → IsEntityOfType extensions (users kind) it
kind_of_entity extensions kind it named of = (
  user_of kind,
  subst (λ name. Contains (users kind).entity_types (name, user_of kind)) named
      (Contains-cons (user, user_of kind) [] (user, user_of kind) (inl refl)),
  of,
)

-- a schema is kept where each entity of its kind is one of the other's
pub users_keep : (extensions : Extensions) (lower upper : EntityTypeKind)
    → ((it : ActionEntity) → IsReal it → IsEntityOfKind extensions (users lower) lower it
    → IsEntityOfKind extensions (users upper) upper it)
    → Keeps extensions (users lower) (users upper)
users_keep extensions lower upper each = record {
  entities = λ it real of. (let own = entity_of_kind extensions lower it of in
      inl (kind_of_entity extensions upper it own.0 (each it real own.1)));
  requests = λ it real of. absurd (Contains-none _ of.1.1);
}

-- a uid that exists beside entities of a kind exists beside those of a standard one
pub users_keep_uids : (lower upper : EntityTypeKind) → IsStandard upper → KeepsUids (Exists (users lower)) (Exists (users upper))
users_keep_uids lower upper standard uid real exists = record {
  choice = λ it there. subst (λ (ty : SchemaEntityType). IsIdOf ty.kind uid.eid) (user_kind upper uid.ty it there).1 (any_id upper standard);
  action = exists.action;
}
  where
    any_id : (kind : EntityTypeKind) → IsStandard kind → IsIdOf kind uid.eid
    any_id (standard_kind fields openness tags) standard' = tt
    any_id _ standard' = absurd standard'

-- an entity of `User` with an id and nothing else
abbrev pub bare : Text → ActionEntity
bare id = record { uid = record { ty = user; eid = id }; attributes = no_entry; tags = no_entry; ancestors = [] }

-- `User` is a name that isn't reserved
user_is_name : IsName user
user_is_name = (refl, (λ i part below. absurd (omega (arith, below))), λ reserved. ⊎_elim (λ same. absurd cc) (Contains-none _) reserved)

-- it is one of the language
bare_is_real : (id : Text) → IsText id → IsReal (bare id)
bare_is_real id written = ((user_is_name, written), tt, tt, λ upper among. absurd (Contains-none upper among))

-- an entity without attributes and tags is lost where the one kind has it and the other hasn't
pub users_lose : (extensions : Extensions) (lower upper : EntityTypeKind) (id : Text) → IsText id
    → IsEntityOfKind extensions (users lower) lower (bare id) → ¬ IsEntityOfKind extensions (users upper) upper (bare id)
    → LosesEntityType extensions (users lower) (users upper) user
users_lose extensions lower upper id written has lacks = (
  bare id,
  refl,
  (
    bare_is_real id written,
    kind_of_entity extensions lower (bare id) refl has,
    λ of. lacks (entity_of_kind extensions upper (bare id) of).1,
  ),
)
