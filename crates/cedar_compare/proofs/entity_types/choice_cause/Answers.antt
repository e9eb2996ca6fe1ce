use Rattle.std.proofs.Common.{Contains, ap, inl, subst, sym, ◌∙◌}
use Rattle.std.proofs.lemmas.Bool.{false≢true}
use Rattle.cedar_compare.proofs.BareLemmas.{alike_enumerated, is_enumerated}
use Rattle.cedar_compare.proofs.StandLemmas.{choice_of_kind}
use Rattle.cedar_compare.proofs.entity_types.choice_cause.Goals as goal
use Rattle.cedar_compare.specs.Words.{IsEnumerated, LacksChoice, PlainUid, SchemaEntityType, new_of, old_of, uid_of}

pub returns-then-is_enumerated_at : goal.returns-then-is_enumerated_at
returns-then-is_enumerated_at c = λ it named.
    let extensions = c.args.versions.now.extensions.now in
    let new = new_of c.args.versions.now in
    let uid = uid_of c.args.uid.now in
    let of = c.is_enumerated_at.ensures.0 c.if-is_enumerated_at.true in
    let there = subst (λ n. Contains new.entity_types (n, of.0)) c.entity_type.ensures.name of.1 in
    let lacks : LacksChoice new uid =
    (of.0, there, λ may. c.requires.lost (inl (of.0, there, choice_of_kind extensions new of.0.kind uid.ty uid.eid of.2 may))) in
    (inl (c.in_ok-clone.ensures.uid ∙ sym named), subst (LacksChoice new) (sym c.in_ok-clone.ensures.uid) lacks)

pub returns : goal.returns
returns c = λ it named ty other there there' alike.
    let old = old_of c.args.versions.now in
    let new = new_of c.args.versions.now in
    let uid = uid_of c.args.uid.now in
    let typed = ap (λ (u : PlainUid). u.ty) named in
    let choice = c.requires.old in
    let same = c.requires.versions.old_keyed.types uid.ty choice.0 ty choice.1 (subst (λ n. Contains old.entity_types (n, ty)) typed there) in
    let enumerated = subst (λ (t : SchemaEntityType). IsEnumerated t.kind) same (is_enumerated choice.0.kind choice.2.0 choice.2.1) in
    let named' = typed ∙ sym c.entity_type.ensures.name in
    false≢true (sym c.if-is_enumerated_at.false ∙ c.is_enumerated_at.ensures.1
    (other, subst (λ n. Contains new.entity_types (n, other)) named' there', alike_enumerated ty.kind other.kind alike enumerated))
