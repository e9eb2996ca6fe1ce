use Rattle.std.proofs.Common.{map}
use Rattle.cedar_ast.proofs.Basics.{OnOk-map}
use Rattle.cedar_validation.proofs.KnownLemmas.{mention_fault, mentions_sound}
use Rattle.cedar_validation.proofs.Results.{on_err}
use Rattle.cedar_validation.proofs.validating.check_types.Goals as goal
use Rattle.cedar_validation.specs.Words.{fault_of, plain_parts, type_name}

pub returns-clause-sound : goal.returns-clause-sound
returns-clause-sound c =
    OnOk-map c.check_mentions.result c.check_mentions.ensures.sound
    (mentions_sound c.args.extensions.now (plain_parts c.args.parts.now) (map type_name c.in_ok-types.types.keys) c.in_ok-types.ensures)

pub returns-clause-fault : goal.returns-clause-fault
returns-clause-fault c =
    on_err c.check_mentions.result c.check_mentions.ensures.fault
    (λ error.
    mention_fault c.args.extensions.now (plain_parts c.args.parts.now) (map type_name c.in_ok-types.types.keys) c.in_ok-types.ensures
    (fault_of error))
