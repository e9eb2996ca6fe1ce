use Rattle.std.proofs.Common.{◌≡◌, ◌+◌, true, false, ◌&&◌, IsSomeAnd, Some, ap, ap₂, drop, option_and_then, subst, sym, ◌∙◌}
use Rattle.std.proofs.lemmas.Bool.{false≢true}
use Rattle.cedar_ast.specs.Identifier.{IsIdentifier, is_identifier_text}
use Rattle.cedar_json.proofs.FieldLemmas.{nth_member-is}
use Rattle.cedar_json.proofs.TypeLemmas.{members_from_index}
use Rattle.cedar_json.proofs.annotations.check_annotation_members.Goals as goal
use Rattle.cedar_json.specs.Words.{are_annotations, is_text_or_null}
use Rattle.json.specs.Json.{object}
use Rattle.json.specs.Value.{members_view, value_view}

-- a member whose key is no identifier is no annotation
pub returns-then-not-is_identifier : goal.returns-then-not-is_identifier
returns-then-not-is_identifier c =
    let x = c.member-item.result in
    let items = c.deref-member-items.result.now in
    let all = c.args.members.now.items in
    let i = c.loop-index.index in
    let same = c.deref-member-items.ensures.value in
    let here = members_from_index items all i x same c.loop-index-test.true c.member-item.is in
    let found = nth_member-is items all i x same c.loop-index-test.true c.member-item.is in
    let rest = are_annotations (members_view (drop (i + 1) all)) in
    let none : is_identifier_text x.0.now ≡ false = (let test = c.if-not-is_identifier.true in let says = c.is_identifier.ensures in cc) in (
      c.loop-index.invariant ∙ ap (λ ys. are_annotations (members_view ys)) here
          ∙ ap (λ b. (b && is_text_or_null (value_view x.1)) && rest) none,
      c.here.ensures.place (object (members_view all))
          (subst (λ m. IsSomeAnd m (λ n. ¬ IsIdentifier n.0)) (sym found) (λ is. false≢true (sym none ∙ is))),
    )

-- nor is one that holds neither a text nor `null`
pub returns-then-not-is_text_or_null : goal.returns-then-not-is_text_or_null
returns-then-not-is_text_or_null c =
    let x = c.member-item.result in
    let items = c.deref-member-items.result.now in
    let all = c.args.members.now.items in
    let i = c.loop-index.index in
    let same = c.deref-member-items.ensures.value in
    let here = members_from_index items all i x same c.loop-index-test.true c.member-item.is in
    let found = nth_member-is items all i x same c.loop-index-test.true c.member-item.is in
    let rest = are_annotations (members_view (drop (i + 1) all)) in
    let some : is_identifier_text x.0.now ≡ true = (let test = c.if-not-is_identifier.false in let says = c.is_identifier.ensures in cc) in
    let none : is_text_or_null (value_view x.1) ≡ false = (let test = c.if-not-is_text_or_null.true in let says = c.is_text_or_null.ensures in cc) in (
      c.loop-index.invariant ∙ ap (λ ys. are_annotations (members_view ys)) here ∙ ap₂ (λ a b. (a && b) && rest) some none,
      c.behind.ensures.place (object (members_view all)) (value_view x.1) (ap (option_and_then (λ m. Some m.1)) found)
          (c.here-fault.ensures.place (value_view x.1) none),
    )
