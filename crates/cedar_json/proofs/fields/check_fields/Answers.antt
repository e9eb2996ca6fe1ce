use Rattle.std.proofs.Common.{◌≡◌, ◌++◌, ap₂, subst, sym}
use Rattle.cedar_json.proofs.FieldLemmas.{has_only-other, member_at-other}
use Rattle.cedar_json.proofs.fields.check_fields.Goals as goal
use Rattle.cedar_json.specs.Fields.{IsOther, known_fields, texts_of}
use Rattle.json.specs.Value.{members_view, value_view}

pub returns-in-Some-other_member : goal.returns-in-Some-other_member
returns-in-Some-other_member c =
    let j = value_view c.args.value.now in
    let ms = members_view c.in-Some.members.now.items in
    let i = c.in-Some-other_member.index in
    let known : texts_of c.own_fields.result.now ++ texts_of c.further_fields.result.now ≡ known_fields c.args.row j =
    ap₂ (λ own more. own ++ more) c.own_fields.ensures c.further_fields.ensures in
    let other = subst (λ names. IsOther names ms i) known c.in-Some-other_member.ensures in (
      has_only-other (known_fields c.args.row j) j ms i (sym c.in-Some.ensures) other,
      c.here-in-Some-other_member.ensures.place j (member_at-other (known_fields c.args.row j) j ms i (sym c.in-Some.ensures) other),
    )
