use Rattle.std.proofs.Common.{◌≡◌, ◌<◌, length, get_or, Some, true, false, ap, sym, ◌∙◌, Bor, Global, arith}
use Rattle.std.proofs.lemmas.Bool.{not-false, not-true}
use Rattle.std.proofs.lemmas.List.{set-get_or}
use Rattle.std.proofs.lemmas.Slice.Eq.{bytes_eq-Decides}
use Rattle.std.specs.Str.{bytes_eq}
use Rattle.cedar_json.proofs.TakenLemmas.{found_by_others, held_more, left_more}
use Rattle.cedar_json.proofs.from_json_owned.take_member.Goals as goal
use Rattle.cedar_json.specs.Words.{Text}
use Rattle.json.specs.Find.{get_member}
use Rattle.json.specs.Value.{members_view, value_view}
use Rattle.json.specs.declared.value.Value.{Value}

abbrev MaybeShared : Type 0
MaybeShared = Bor Text × Value Global

-- a member of another name stays
pub loop-member-preserved-then-ne : goal.loop-member-preserved-then-ne
loop-member-preserved-then-ne c =
    let x : MaybeShared = c.member-item.result in
    let name = c.args.name.now in
    let now = c.loop-member.member-items in
    let all = c.args.members.now.items in
    let i = c.loop-member.member-index in
    let within : i < length now = omega arith in
    let test : bytes_eq x.0.now name ≡ false = not-true (bytes_eq x.0.now name) (cc (c.ne.ensures, c.if-ne.true, c.member-item.is)) in
    let before = c.loop-member.invariant in record {
      held = before.held ∙ held_more name now all i x within c.member-item.is before.left false test;
      others = λ other differs. ap (λ ms. get_member other (members_view ms)) (set-get_or now i x) ∙ before.others other differs;
      left = left_more name now all i x within c.member-item.is before.left _;
    }

-- what one of the name holds is taken
pub loop-member-preserved : goal.loop-member-preserved
loop-member-preserved c =
    let x : MaybeShared = c.member-item.result in
    let name = c.args.name.now in
    let now = c.loop-member.member-items in
    let all = c.args.members.now.items in
    let i = c.loop-member.member-index in
    let within : i < length now = omega arith in
    let test : bytes_eq x.0.now name ≡ true = not-false (bytes_eq x.0.now name) (cc (c.ne.ensures, c.if-ne.false, c.member-item.is)) in
    let called : (get_or now i x).0.now ≡ name = ap (λ (m : MaybeShared). m.0.now) (sym c.member-item.is) ∙ (bytes_eq-Decides x.0.now name).0 test in
    let before = c.loop-member.invariant in record {
      held = ap (λ (v : Value Global). Some (value_view v)) (c.replace.ensures.value ∙ ap (λ (m : MaybeShared). m.1) (sym c.member-item.is))
          ∙ held_more name now all i x within c.member-item.is before.left true test;
      others = λ other differs. found_by_others name other now i ((get_or now i x).0, c.replace.new.dest) x differs called called
          ∙ before.others other differs;
      left = left_more name now all i x within c.member-item.is before.left _;
    }
