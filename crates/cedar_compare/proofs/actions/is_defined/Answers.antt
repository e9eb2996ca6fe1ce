use Rattle.std.proofs.Common.{subst}
use Rattle.std.proofs.lemmas.Bool.{false≢true}
use Rattle.cedar_compare.proofs.FindLemmas.{defined_as, fails, not_fails}
use Rattle.cedar_compare.proofs.actions.is_defined.Goals as goal
use Rattle.cedar_compare.specs.Words.{IsDefinedKind, action_of, schema_of, uid_of}
use Rattle.cedar_schema_elements.proofs.EntityLemmas.{defined_kind}

pub returns-in-Some : goal.returns-in-Some
returns-in-Some c =
    let action = action_of c.in-Some.action.now in (
      λ yes. (action, c.in-Some.ensures, defined_kind action.kind (λ external. not_fails c.is_external.result yes (c.is_external.ensures.1 external))),
      λ defined. fails c.is_external.result
          (λ yes. subst IsDefinedKind (c.is_external.ensures.0 yes)
          (defined_as (schema_of c.args.schema.now) c.requires (uid_of c.args.uid.now) action c.in-Some.ensures defined)),
    )

pub returns-in-None : goal.returns-in-None
returns-in-None c = (λ wrong. absurd (false≢true wrong), λ (it, among, defined). absurd (c.in-None.ensures it among))
