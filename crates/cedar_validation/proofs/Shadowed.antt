-- Names that nothing without a namespace stands beside.
use Rattle.std.proofs.Common.{◌≡◌, [], sym, ◌∙◌}
use Rattle.cedar_validation.specs.Words.{EntityType, EntityUID, HasAction, HasEntityType, IsActionType, Parts, PlainName, PlainUid, ShadowsAction, ShadowsType, plain_parts, type_name, uid_of}

-- no entity type of the schema would shadow the one
abbrev pub ShadowsNoType : Parts → EntityType → Type 0
ShadowsNoType parts qualified = (plain : PlainName) → HasEntityType (plain_parts parts) plain → ¬ ShadowsType plain (type_name qualified)

-- no action of the schema would shadow the one, where all have types of actions
abbrev pub ShadowsNoAction : Parts → EntityUID → Type 0
ShadowsNoAction parts qualified =
    ((uid : PlainUid) → HasAction (plain_parts parts) uid → IsActionType uid.ty)
    → (plain : PlainUid) → HasAction (plain_parts parts) plain → ¬ ShadowsAction plain (uid_of qualified)

-- names without a namespace are the same where their base names are
pub plain_is : (plain other : PlainName) → plain.base ≡ other.base → plain.path ≡ [] → other.path ≡ [] → plain ≡ other
plain_is plain other base path nothing = λ i. record { base = base i; path = (path ∙ sym nothing) i }

-- where the name without a namespace isn't there, nothing shadows
pub no_type_shadows : (parts : Parts) (qualified : EntityType) (short : PlainName) → short.base ≡ (type_name qualified).base
    → short.path ≡ [] → ¬ HasEntityType (plain_parts parts) short → ShadowsNoType parts qualified
no_type_shadows parts qualified short base path absent = λ plain among shadows.
    absent (rw (plain_is plain short (shadows.3 ∙ sym base) shadows.0 path) at among)

pub no_action_shadows : (parts : Parts) (qualified : EntityUID) (short : PlainUid)
    → HasAction (plain_parts parts) (uid_of qualified) → short.ty.base ≡ (uid_of qualified).ty.base → short.ty.path ≡ []
    → short.eid ≡ (uid_of qualified).eid → ¬ HasAction (plain_parts parts) short → ShadowsNoAction parts qualified
no_action_shadows parts qualified short here base path eid absent = λ are plain among shadows.
    let same : plain.ty ≡ short.ty =
    plain_is plain.ty short.ty (are plain among ∙ (sym (are (uid_of qualified) here) ∙ sym base)) shadows.0 path in
    let ids : plain.eid ≡ short.eid = shadows.2 ∙ sym eid in
    let whole : plain ≡ short = λ i. record { ty = same i; eid = ids i } in
    absent (rw whole at among)
