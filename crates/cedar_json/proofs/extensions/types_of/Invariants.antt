use Rattle.std.proofs.Common.{◌≡◌, drop, map, take}
use Rattle.cedar_json.proofs.extensions.types_of.Given as goal
use Rattle.cedar_json.specs.Words.{AreKinds, core_ty_of, kind_type}

abbrev pub invariant-loop-kind : goal.invariant-loop-kind
invariant-loop-kind l = record {
  made : map core_ty_of l.types.items ≡ map kind_type (take l.kind-index l.kinds);
  left : AreKinds (drop l.kind-index l.kinds);
}
