use Rattle.std.proofs.Common.{ap, inr, sym, ◌∙◌, inl}
use Rattle.std.proofs.lemmas.Bool.{false≢true}
use Rattle.cedar_queries.proofs.possible.may_have_attr.Goals as goal
use Rattle.cedar_type_rules.proofs.InclusionLemmas.{found-Decides}
use Rattle.cedar_types.proofs.MemberParts.{ty_of-record}
use Rattle.cedar_types.specs.Meaning.{attribute_of, fields_of, ty_of}

pub returns-else-is_open : goal.returns-else-is_open
returns-else-is_open c =
    let same = ap ty_of c.in-Record.is ∙ ty_of-record c.in-Record.attrs c.in-Record.open_attributes in
    let shown = found-Decides attribute_of c.get_attr.result c.args.name.now (fields_of c.in-Record.attrs) c.get_attr.ensures.attribute in (
      λ found. rw same (inr (shown.0 (sym c.is_some.ensures ∙ found))),
      λ may. elim (rw same at may) [
        | inl open_too ↦ absurd (false≢true (sym c.if-is_open.false ∙ c.is_open.ensures.1 open_too))
        | inr among ↦ c.is_some.ensures ∙ shown.1 among
      ],
    )
