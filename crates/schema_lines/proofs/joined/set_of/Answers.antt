use Rattle.std.proofs.Common.{[], subst, sym}
use Rattle.cedar_type_rules.specs.Words.{IsStatedWith, Ty, set_of}
use Rattle.cedar_types.specs.Meaning.{ty_of}
use Rattle.cedar_types.specs.declared.types.Type.{«Type»}
use Rattle.schema_lines.proofs.joined.set_of.Goals as goal

pub returns : goal.returns
returns c extensions =
    let P : Ty → Type 0 = IsStatedWith extensions [] in
    let Q : «Type» → Type 0 = λ ty. P (set_of (ty_of ty)) in
    subst P (sym c.set.ensures) (subst Q (sym c.in_ok-new.ensures.ok) (c.requires extensions))
