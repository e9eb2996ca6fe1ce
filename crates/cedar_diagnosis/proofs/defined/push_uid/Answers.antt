use Rattle.std.proofs.Common.{Option, map, sym, subst}
use Rattle.cedar_ast.specs.Words.{uid_of}
use Rattle.cedar_ast.specs.declared.entity_uid.EntityUID.{EntityUID}
use Rattle.cedar_diagnosis.proofs.defined.push_uid.Goals as goal
use Rattle.cedar_diagnosis.specs.Adding.{optional}
use Rattle.cedar_name_resolution.proofs.SetLemmas.{HasAlso-pushed}
use Rattle.cedar_name_resolution.specs.Words.{HasAlso}

pub returns-in_ok-push : goal.returns-in_ok-push
returns-in_ok-push c =
    let Also : Option EntityUID → Type 0 = λ each.
    HasAlso (map uid_of c.push.new.self.items) (map uid_of c.args.uids.now.items) (optional uid_of each) in
    subst Also (sym c.in-Some.is) (HasAlso-pushed uid_of c.args.uids.now.items c.push.new.self.items c.in-Some.uid c.in_ok-push.ensures.items)
