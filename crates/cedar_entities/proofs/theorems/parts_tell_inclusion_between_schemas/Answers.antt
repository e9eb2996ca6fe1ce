use Rattle.std.proofs.Common.{◌≡◌, ◌⊎◌, inl, inr}
use Rattle.cedar_entities.proofs.ExchangeLemmas.{uid_mentioned}
use Rattle.cedar_entities.proofs.FreshTypes.{decide_mentions, fresh_exists, fresh_real, fresh_uid, fresh_unmentioned}
use Rattle.cedar_entities.proofs.KeptIds.{ids_kept, values_included}
use Rattle.cedar_entities.proofs.KeptLemmas.{kept_by_parts}
use Rattle.cedar_entities.proofs.theorems.parts_tell_inclusion_between_schemas.Goals as goal
use Rattle.cedar_entities.specs.Words.{Exists, HasUidsIn, IsValue, MentionsEntity, PlainSchema, PlainUid, Ty, uid_value}
use Rattle.cedar_type_rules.proofs.ValueInclusion.{inclusion_by_parts}

-- a uid that exists stands for another: of the same type where the lower type mentions that one, and
-- else of one that the upper type doesn't mention
record Stands (old : PlainSchema) (lower upper : Ty) (uid it : PlainUid) : Type 0 where
  exists : Exists old it
  real : IsValue (uid_value it)
  stays : MentionsEntity lower uid.ty → it.ty ≡ uid.ty
  apart : (it.ty ≡ uid.ty) ⊎ ¬ MentionsEntity upper it.ty

-- for each uid there is one that stands for it
stands : (old : PlainSchema) (lower upper : Ty) → HasUidsIn (Exists old) lower → (uid : PlainUid) → (it : PlainUid) × Stands old lower upper uid it
stands old lower upper known uid = elim (decide_mentions lower uid.ty) [
  | inl mentions ↦
      (let it = uid_mentioned (Exists old) lower uid.ty known mentions in
      (it.0, record { exists = it.3; real = it.2; stays = λ _. it.1; apart = inl it.1 }))
  | inr none ↦ (
    fresh_uid old upper,
    record {
      exists = fresh_exists old upper;
      real = fresh_real old upper;
      stays = λ mentions. absurd (none mentions);
      apart = inr (fresh_unmentioned old upper);
    },
  )
]

pub returns : goal.returns
returns c old new lower upper formed other extensions lives known =
    let R = Stands old lower upper in
    let gives = stands old lower upper known in (
      kept_by_parts extensions (Exists old) (Exists new) lower upper,
      λ kept. record {
        values = (inclusion_by_parts lower upper formed other extensions lives).1
            (values_included extensions (Exists old) (Exists new) R gives (λ uid it s. s.exists) (λ uid it s. s.real) lower (λ uid it s. s.stays)
            upper (λ uid it s. s.apart) kept);
        ids = ids_kept extensions (Exists old) (Exists new) R gives (λ uid it s. s.exists) (λ uid it s. s.real) lower (λ uid it s. s.stays)
            lower formed lives (λ name mentions. mentions) (λ value real has old. (kept value real has old).1);
      },
    )
