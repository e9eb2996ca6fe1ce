use Rattle.std.proofs.Common.{ap, inr}
use Rattle.cedar_builder.proofs.EntityTypeCases.{no_record}
use Rattle.cedar_builder.proofs.EntityTypesElaborated.{closed_elaborated}
use Rattle.cedar_builder.proofs.entity_type_kinds.shape_attributes.Goals as goal
use Rattle.cedar_builder.specs.Words.{shape_not_record, ty_of}
use Rattle.cedar_types.proofs.MemberParts.{ty_of-record}

pub returns-in-Record-clause-elaborates : goal.returns-in-Record-clause-elaborates
returns-in-Record-clause-elaborates g c = λ defined knows.
    closed_elaborated (rw (ap ty_of c.in-Record.is, ty_of-record c.in-Record.attrs c.in-Record.open_attributes) at
    (c.in_ok-elaborated.ensures.elaborates defined knows))

pub returns : goal.returns
returns g c = record {
  elaborates = tt;
  closed = tt;
  extensions = tt;
  resolved = tt;
  fault = inr (inr (
    ap shape_not_record c.in_ok-clone.ensures.name,
    (
      ty_of c.in_ok-elaborated.elaborated,
      c.in_ok-elaborated.ensures.elaborates,
      no_record c.in_ok-elaborated.elaborated c.in_default.not-Record,
    ),
  ));
}
