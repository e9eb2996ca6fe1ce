use Rattle.std.proofs.Common.{◌∙◌}
use Rattle.cedar_ast.proofs.Collected.{get-find_own, keyed_after, inserted_found, others_found, uids_ordered}
use Rattle.cedar_ast.proofs.entities.Entities.insert.Goals as goal

pub invariant_of-self : goal.invariant_of-self
invariant_of-self c = record {
  keyed = keyed_after c.in_ok-uid.uid c.args.entity (c.in_ok-uid.ensures.uid
      ∙ c.uid.ensures.uid) _ _ c.args.self.now.keyed c.insert.result c.insert.ensures.entries c.insert.ensures.err;
}

pub returns-clause-replaced : goal.returns-clause-replaced
returns-clause-replaced c =
    c.in_ok-insert.ensures.old ∙ get-find_own c.in_ok-uid.uid c.args.entity (c.in_ok-uid.ensures.uid
    ∙ c.uid.ensures.uid) c.args.self.now.entities c.args.self.now.keyed

pub returns-clause-inserted : goal.returns-clause-inserted
returns-clause-inserted c =
    inserted_found c.in_ok-uid.uid c.args.entity (c.in_ok-uid.ensures.uid
    ∙ c.uid.ensures.uid) _ _ c.args.self.now.keyed c.in_ok-insert.ensures.entries

pub returns-clause-others : goal.returns-clause-others
returns-clause-others c =
    others_found c.in_ok-uid.uid c.args.entity (c.in_ok-uid.ensures.uid
    ∙ c.uid.ensures.uid) _ _ c.args.self.now.keyed c.in_ok-insert.ensures.entries

pub returns-clause-ordered : goal.returns-clause-ordered
returns-clause-ordered c =
    uids_ordered c.insert.new.self (keyed_after c.in_ok-uid.uid c.args.entity (c.in_ok-uid.ensures.uid
    ∙ c.uid.ensures.uid) _ _ c.args.self.now.keyed c.insert.result c.insert.ensures.entries c.insert.ensures.err)
    c.insert.ensures.ordered
