use Rattle.cedar_ast.proofs.Names.{internal_name_ord-Equal}
use Rattle.cedar_ast.specs.contracts.internal_name.InternalNameOrd.TheImpl as order
use Rattle.cedar_elaboration.proofs.Entries.{looked_up, not_found}
use Rattle.cedar_elaboration.proofs.type_scope.TypeScope.common_type.Goals as goal
use Rattle.cedar_elaboration.specs.Words.{name_of, ty_of}

pub returns-in_ok-clone-in-Some : goal.returns-in_ok-clone-in-Some
returns-in_ok-clone-in-Some c =
    let types = c.args.self.now.common.now in (
      c.may_name_common.ensures.0 c.if-not-may_name_common.false,
      rw c.in_ok-clone-in-Some.ensures.same
          (looked_up ((order.ghosts).cmp) name_of internal_name_ord-Equal ty_of types.entries c.args.name.now c.in-Some.ty.now
          c.in-Some.ensures.value),
    )

pub returns-in-None : goal.returns-in-None
returns-in-None c may among =
    not_found ((order.ghosts).cmp) name_of internal_name_ord-Equal ty_of c.args.self.now.common.now.entries c.args.name.now
    c.in-None.ensures.value among
