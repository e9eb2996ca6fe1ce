use Rattle.std.proofs.Common.{ap}
use Rattle.cedar_ast.proofs.Basics.{OnOk-map}
use Rattle.cedar_validation.proofs.MentionLemmas.{union_known}
use Rattle.cedar_validation.proofs.known.Known.check_kind.Goals as goal
use Rattle.cedar_validation.specs.Words.{kind_ty, lub_names}

pub returns-in-Entity-clause-sound : goal.returns-in-Entity-clause-sound
returns-in-Entity-clause-sound c =
    OnOk-map c.check_union.result c.check_union.ensures.sound
    (union_known c.args.self.now (kind_ty c.args.kind.now) (lub_names c.in-Entity.union) (ap kind_ty c.in-Entity.is))
