use Rattle.std.proofs.Common.{inr}
use Rattle.cedar_ast.proofs.Basics.{Contains-image}
use Rattle.cedar_ast.proofs.Lists.{Contains-preimage}
use Rattle.cedar_ast.specs.EntityType.{type_name}
use Rattle.cedar_validation.proofs.Keyed.{type_stands}
use Rattle.cedar_validation.proofs.request_types.check_declared.Goals as goal

pub returns-in-None-clause-sound : goal.returns-in-None-clause-sound
returns-in-None-clause-sound c = λ name among.
    let key = Contains-preimage type_name c.args.names name among in
    rw key.2 at ((type_stands c.args.parts.now.entity_types.entries key.0).0 (c.in-None.ensures key.0 key.1))

pub returns-in_ok-undeclared-in-Some-clause-fault : goal.returns-in_ok-undeclared-in-Some-clause-fault
returns-in_ok-undeclared-in-Some-clause-fault c =
    let key = c.in-Some.name.now in
    inr (
      type_name key,
      c.in_ok-undeclared-in-Some.ensures,
      Contains-image type_name c.args.names key c.in-Some.ensures.0,
      λ has. c.in-Some.ensures.1 ((type_stands c.args.parts.now.entity_types.entries key).1 has),
    )
