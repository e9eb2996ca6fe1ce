-- Which uids exist in a schema.
use Rattle.std.proofs.Common.{◌⊎◌, List, [], ◌∷◌, inl, inr, ap, subst, map, Contains, arith, codes}
use Rattle.cedar_ast.proofs.Lists.{Contains-cons, Contains-cons_cases}
use Rattle.cedar_ast.proofs.PlainNames.{uid_cmp-Equal}
use Rattle.cedar_compare.proofs.LostLemmas.{choices_of_id}
use Rattle.cedar_compare.specs.SchemaUids.{exists_plain}
use Rattle.cedar_compare.specs.Words.{EntityTypeKind, EnumeratesNone, Exists, IsEnumerated, IsIdOf, LacksChoice, MayHaveId, PlainName, PlainSchema, PlainUid, SchemaEntityType, Text, enumerated_kind, external_kind, standard_kind, uid_cmp}
use Rattle.cedar_type_rules.proofs.AnsweredLemmas.{decide_names}
use Rattle.cedar_type_rules.proofs.Decisions.{IsDecided, decide_among, decide_same}
use Rattle.cedar_type_rules.proofs.RecordAnswers.{decide_texts}

-- where nothing is enumerated, each id may be had
pub any_id : (schema : PlainSchema) (uid : PlainUid) → EnumeratesNone schema → MayHaveId schema uid
any_id schema uid none it there = of_kind it.kind (none uid.ty it there)
  where
    of_kind : (kind : EntityTypeKind) → ¬ IsEnumerated kind → IsIdOf kind uid.eid
    of_kind (enumerated_kind choices) none' = absurd (none' tt)
    of_kind _ none' = tt

-- a kind may have an id or not
id_decided : (kind : EntityTypeKind) (id : Text) → IsDecided (IsIdOf kind id)
id_decided (standard_kind fields openness tags) id = inl tt
id_decided (enumerated_kind choices) id = decide_among decide_texts choices id
id_decided external_kind id = inl tt

-- a uid may have its id, as far as some entity types say
abbrev MayHaveIdIn : List (PlainName × SchemaEntityType) → PlainUid → Type 0
MayHaveIdIn types uid = (it : SchemaEntityType) → Contains types (uid.ty, it) → IsIdOf it.kind uid.eid

-- it may, or one of them lacks it
choice_told : (uid : PlainUid) (types : List (PlainName × SchemaEntityType)) → MayHaveIdIn types uid
    ⊎ ((it : SchemaEntityType) × Contains types (uid.ty, it) × ¬ IsIdOf it.kind uid.eid)
choice_told uid [] = inl (λ it among. absurd (omega (arith, among.1)))
choice_told uid (first ∷ rest) = elim (choice_told uid rest) [
  | inr (it, there, lacks) ↦ inr (it, Contains-cons first rest (uid.ty, it) (inr there), lacks)
  | inl others ↦
      elim (decide_names first.0 uid.ty) [
        | inr differ ↦
            inl (λ it among. elim (Contains-cons_cases first rest (uid.ty, it) among) [
              | inl here ↦ absurd (differ (ap (λ (e : PlainName × SchemaEntityType). e.0) here))
              | inr later ↦ others it later
            ])
        | inl same ↦
            elim (id_decided first.1.kind uid.eid) [
              | inl of ↦
                  inl (λ it among. elim (Contains-cons_cases first rest (uid.ty, it) among) [
                    | inl here ↦ subst (λ (e : PlainName × SchemaEntityType). IsIdOf e.1.kind uid.eid) here of
                    | inr later ↦ others it later
                  ])
              | inr lacks ↦
                  inr (first.1, Contains-cons first rest (uid.ty, first.1) (inl (ap (λ (n : PlainName). (n, first.1)) same)), lacks)
            ]
      ]
]

-- the type of a uid that a schema may not have lacks its id
pub lacks_of : (schema : PlainSchema) (uid : PlainUid) → ¬ MayHaveId schema uid → LacksChoice schema uid
lacks_of schema uid none = elim (choice_told uid schema.entity_types) [
  | inl may ↦ absurd (none may)
  | inr (it, there, lacks) ↦ (it, there, λ may. lacks (choices_of_id it.kind uid.eid may))
]

-- a uid exists or not
pub exists_decided : (schema : PlainSchema) (uid : PlainUid) → IsDecided (Exists schema uid)
exists_decided schema uid = elim (choice_told uid schema.entity_types) [
  | inr (it, there, lacks) ↦ inr (λ exists. lacks (exists.choice it there))
  | inl may ↦
      elim (decide_texts uid.ty.base (codes "Action")) [
        | inr plain ↦ inl (exists_plain schema uid plain may)
        | inl of_actions ↦
            elim (decide_among (decide_same uid_cmp uid_cmp-Equal) (map (λ it. it.0) schema.actions) uid) [
              | inl there ↦ inl (record { choice = may; action = λ _. there })
              | inr none ↦ inr (λ exists. none (exists.action of_actions))
            ]
      ]
]

-- what exists in one schema wherever it does in another isn't lost, and what isn't lost is kept
pub kept_of_none : (old new : PlainSchema) (uid : PlainUid) → ¬ (Exists old uid × ¬ Exists new uid) → Exists old uid → Exists new uid
kept_of_none old new uid none exists = elim (exists_decided new uid) [
  | inl kept ↦ kept
  | inr lost ↦ absurd (none (exists, lost))
]

-- a uid that isn't said not to be lost is
pub lost_of_some : (old new : PlainSchema) (uid : PlainUid) → ¬ ¬ (Exists old uid × ¬ Exists new uid) → Exists old uid × ¬ Exists new uid
lost_of_some old new uid some = elim (exists_decided old uid) [
  | inl exists ↦
      elim (exists_decided new uid) [
        | inl kept ↦ absurd (some (λ lost. lost.1 kept))
        | inr none ↦ (exists, none)
      ]
  | inr none ↦ absurd (some (λ lost. none lost.0))
]
