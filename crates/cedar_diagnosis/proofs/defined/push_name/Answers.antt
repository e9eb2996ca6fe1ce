use Rattle.std.proofs.Common.{Option, map, sym, subst}
use Rattle.cedar_ast.specs.Words.{name_of}
use Rattle.cedar_ast.specs.declared.internal_name.InternalName.{InternalName}
use Rattle.cedar_diagnosis.proofs.defined.push_name.Goals as goal
use Rattle.cedar_diagnosis.specs.Adding.{optional}
use Rattle.cedar_name_resolution.proofs.SetLemmas.{HasAlso-pushed}
use Rattle.cedar_name_resolution.specs.Words.{HasAlso}

pub returns-in_ok-push : goal.returns-in_ok-push
returns-in_ok-push c =
    let Also : Option InternalName → Type 0 = λ each.
    HasAlso (map name_of c.push.new.self.items) (map name_of c.args.names.now.items) (optional name_of each) in
    subst Also (sym c.in-Some.is) (HasAlso-pushed name_of c.args.names.now.items c.push.new.self.items c.in-Some.name c.in_ok-push.ensures.items)
