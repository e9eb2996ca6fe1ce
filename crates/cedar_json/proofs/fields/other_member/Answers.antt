use Rattle.std.proofs.Common.{◌≡◌, ◌++◌, false, IsSomeAnd, subst, sym}
use Rattle.cedar_json.proofs.FieldLemmas.{nth_member-is}
use Rattle.cedar_json.proofs.fields.other_member.Goals as goal
use Rattle.cedar_json.specs.Fields.{is_among, texts_of}

pub returns-then-not-is_known : goal.returns-then-not-is_known
returns-then-not-is_known c =
    let x = c.member-item.result in
    let names = texts_of c.args.own.now ++ texts_of c.args.more.now in
    let here = nth_member-is c.deref-member-items.result.now c.args.members.now.items c.loop-index.index x c.deref-member-items.ensures.value
    c.loop-index-test.true c.member-item.is in
    subst (λ m. IsSomeAnd m (λ n. is_among n.0 names ≡ false)) (sym here)
    (let test = c.if-not-is_known.true in let says = c.is_known.ensures in cc)
