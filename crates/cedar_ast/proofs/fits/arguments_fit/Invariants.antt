use Rattle.std.proofs.Common.{◌↔◌, map}
use Rattle.std.specs.Iterator.Adapters.{zip_first, zip_second}
use Rattle.std.specs.Slice.Iter.{iter_rest}
use Rattle.cedar_ast.proofs.fits.arguments_fit.Given as goal
use Rattle.cedar_ast.specs.Words.{ArgumentsFit, core_ty_of, trees_of}

abbrev pub invariant-loop-arg : goal.invariant-loop-arg
invariant-loop-arg l =
    ArgumentsFit l.extensions (trees_of (iter_rest (zip_first l.arg-iterator)))
    (map core_ty_of (iter_rest (zip_second l.arg-iterator))) ↔ ArgumentsFit l.extensions (trees_of l.args) (map core_ty_of l.types)
