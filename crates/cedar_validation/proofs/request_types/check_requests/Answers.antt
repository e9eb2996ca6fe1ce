use Rattle.std.proofs.Common.{inr, sym, ◌∙◌}
use Rattle.std.proofs.lemmas.Bool.{false≢true}
use Rattle.cedar_ast.proofs.Basics.{Contains-image}
use Rattle.cedar_ast.proofs.Lists.{Contains-preimage}
use Rattle.cedar_validation.proofs.Checking.{checking_all, checking_here, checking_more, checking_none}
use Rattle.cedar_validation.proofs.Keyed.{type_stands}
use Rattle.cedar_validation.proofs.request_types.check_requests.Goals as goal
use Rattle.cedar_validation.specs.Words.{EntityType, HasEntityType, plain_parts, type_name}

-- at first no entity type is looked for, and all are left
pub loop-ty-init : goal.loop-ty-init
loop-ty-init c =
    checking_none (λ (ty : EntityType). HasEntityType (plain_parts c.args.parts.now) (type_name ty)) c.args.types _
    c.into_iter-ty-iterator.ensures.into_iter_gives

-- one more is there
pub loop-ty-preserved : goal.loop-ty-preserved
loop-ty-preserved c =
    let ty = c.in-Some.ty.now in
    checking_more (λ (ty : EntityType). HasEntityType (plain_parts c.args.parts.now) (type_name ty)) c.args.types _ _ ty
    c.in-Some.ensures.steps c.loop-ty.invariant
    ((type_stands c.args.parts.now.entity_types.entries ty).0 (sym c.contains_key.ensures ∙ c.if-not-contains_key.false))

-- where none is left, each is there
pub returns-clause-sound : goal.returns-clause-sound
returns-clause-sound c = λ name among.
    let key = Contains-preimage type_name c.args.types name among in
    rw key.2 at
    (checking_all (λ (ty : EntityType). HasEntityType (plain_parts c.args.parts.now) (type_name ty)) c.args.types _
    c.in-None.ensures.steps.0 c.loop-ty.invariant key.0 key.1)

-- the one that isn't there is one of them
pub returns-then-not-contains_key-clause-fault : goal.returns-then-not-contains_key-clause-fault
returns-then-not-contains_key-clause-fault c =
    let ty = c.in-Some.ty.now in
    inr (
      type_name ty,
      c.in_ok-undeclared.ensures,
      Contains-image type_name c.args.types ty
          (checking_here (λ (ty : EntityType). HasEntityType (plain_parts c.args.parts.now) (type_name ty)) c.args.types _ _ ty
          c.in-Some.ensures.steps c.loop-ty.invariant),
      λ has. false≢true (sym c.if-not-contains_key.true
          ∙ (c.contains_key.ensures ∙ (type_stands c.args.parts.now.entity_types.entries ty).1 has)),
    )
