use Rattle.std.proofs.Common.{◌≡◌, map, take}
use Rattle.cedar_types.proofs.join.unions_of.Given as goal
use Rattle.cedar_types.specs.Words.{lub_ty, ty_of}

abbrev pub invariant-loop-ty : goal.invariant-loop-ty
invariant-loop-ty l = map ty_of (take l.ty-index l.types) ≡ map (λ lub. lub_ty lub.now) l.unions.items
