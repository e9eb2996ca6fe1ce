use Rattle.std.proofs.Common.{refl, sym, ◌∙◌, ⊎_elim}
use Rattle.std.proofs.lemmas.Bool.{false≢true}
use Rattle.cedar_compare.proofs.ExistingLemmas.{any_id}
use Rattle.cedar_compare.proofs.lost_uids.exists_in.Goals as goal
use Rattle.cedar_compare.specs.Words.{schema_of, uid_of}

-- an action of a schema that enumerates nothing exists
pub returns-then-is_known_action_id : goal.returns-then-is_known_action_id
returns-then-is_known_action_id c = (
  λ _. record {
    choice = any_id (schema_of c.args.schema.now) (uid_of c.args.uid.now)
        (⊎_elim (λ yes. absurd (false≢true (sym c.if-not-is_enumerated.true ∙ yes))) (λ none. none) c.requires);
    action = λ _. c.is_known_action_id.ensures.0 c.if-is_known_action_id.true;
  },
  λ _. refl,
)
