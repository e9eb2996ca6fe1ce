use Rattle.std.proofs.Common.{Bool, ◌≡◌, subst, sym}
use Rattle.std.specs.Bool.{Decides}
use Rattle.cedar_ast.proofs.Names.{internal_name_eq-same}
use Rattle.cedar_ast.specs.InternalName.{name_of}
use Rattle.cedar_places.proofs.place.is_same.Goals as goal

pub returns : goal.returns
returns c =
    let P : Bool → Type 0 = λ same. Decides same (name_of c.args.name.now ≡ name_of c.args.other.now) in
    subst P (sym c.eq.ensures) (internal_name_eq-same c.args.name.now c.args.other.now)
