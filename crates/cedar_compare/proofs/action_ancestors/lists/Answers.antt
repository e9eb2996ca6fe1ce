use Rattle.std.proofs.Common.{sym, ◌∙◌}
use Rattle.std.proofs.lemmas.Bool.{false≢true}
use Rattle.cedar_compare.proofs.FindLemmas.{listed_by}
use Rattle.cedar_compare.proofs.action_ancestors.lists.Goals as goal
use Rattle.cedar_compare.specs.Words.{action_of, schema_of, uid_of}
use Rattle.cedar_schema_elements.proofs.SetLemmas.{list_any-uids}
use Rattle.cedar_schema_elements.specs.ValidatorActionId.{parts_of}

pub returns-in-Some : goal.returns-in-Some
returns-in-Some c =
    let it = c.in-Some.action.now in
    let lower = c.args.lower.now in
    let law = list_any-uids lower (parts_of it).descendants.keys in (
      λ yes. (action_of it, c.in-Some.ensures, law.0 (sym c.has_edge_to.ensures ∙ yes)),
      λ listed. c.has_edge_to.ensures ∙ law.1
          (listed_by (schema_of c.args.schema.now) c.requires (uid_of lower) (uid_of c.args.upper.now) (action_of it) c.in-Some.ensures listed),
    )

pub returns-in-None : goal.returns-in-None
returns-in-None c = (λ wrong. absurd (false≢true wrong), λ (it, among, below). absurd (c.in-None.ensures it among))
