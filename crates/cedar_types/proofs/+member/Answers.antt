use Rattle.std.proofs.Common.{◌≡◌, Bool, false, not, Ok, ap, sym, ◌∙◌, string_bytes}
use Rattle.std.proofs.Math.ListN.{drop_of_length-le}
use Rattle.std.specs.BTreeMap.{get_by_text}
use Rattle.std.specs.Option.{option_copied}
use Rattle.cedar_ast.proofs.TreeLemmas.{drop-at, tree_of-uid, tree_of-set, tree_of-record, tree_of-call}
use Rattle.cedar_types.proofs.+member.Goals as goal
use Rattle.cedar_types.proofs.+member.Goals.{member::fields_have-in-Some, member::fields_have-in-None}
use Rattle.cedar_types.proofs.EntriesLeftSteps.{Serves-first, Serves-next}
use Rattle.cedar_types.proofs.EqualityLaws.{attribute_of-parts}
use Rattle.cedar_types.proofs.MemberParts.{IsMembershipFor, IsMembershipFor-at, IsMembershipFor-uid, IsMembershipFor-listed, IsMembershipFor-unlisted, IsMembershipForEntry, IsMembershipForEntry-Some, IsMembershipForEntry-None, ElementsSoFar-more, FieldsSoFar-more, ty_of-set, ty_of-record, ty_of-entity, ty_of-extension}
use Rattle.cedar_types.proofs.MembershipLemmas.{IsMembershipSoFar-none, IsMembershipSoFar-all, IsMembershipSoFar-stops}
use Rattle.cedar_types.specs.Words.{Answer, Ty, attribute_of, entries_left, entries_of, entry_at, fields_from, fields_of, fields_of-pairs, out-Attributes, plain_attributes, tree_of, ty_of, uid_of, value_at}
use Rattle.cedar_types.specs.declared.types.Type.TheVariants as type

-- at first no element was tried
pub member::elements_have-loop-value-init : goal.member::elements_have-loop-value-init
member::elements_have-loop-value-init t c = IsMembershipSoFar-none _ _ _

-- the answer for the next element joins those before
pub member::elements_have-loop-value-preserved : goal.member::elements_have-loop-value-preserved
member::elements_have-loop-value-preserved t c =
    let right : IsMembershipFor c.args.extensions.now (tree_of c.value-item.result)
    (ty_of c.args.ty.now) c.typecheck_restricted_expr.result =
    record {
      yes = c.typecheck_restricted_expr.ensures.has;
      no = c.typecheck_restricted_expr.ensures.lacks;
      fault = c.typecheck_restricted_expr.ensures.fault;
    } in
    ElementsSoFar-more c.args.extensions.now (ty_of c.args.ty.now) c.args.values.now c.loop-value.value-index
    c.value-item.result c.loop-value.so_far c.typecheck_restricted_expr.result c.both-so_far.result
    c.loop-value-test.true c.value-item.is (record {
      yes = c.both-so_far.ensures.yes;
      no = c.both-so_far.ensures.no;
      fault = c.both-so_far.ensures.fault;
    }) right c.loop-value.invariant

-- where none is left, the answers are those for all
pub member::elements_have-returns : goal.member::elements_have-returns
member::elements_have-returns t c =
    IsMembershipSoFar-all c.loop-value.so_far _ _ _ _
    (rw (drop_of_length-le c.args.values.now c.loop-value-test.false) at c.loop-value.invariant)

-- at first no attribute was tried, and all entries are left
pub member::fields_have-loop-name-init : goal.member::fields_have-loop-name-init
member::fields_have-loop-name-init t c =
    let attrs = c.args.attrs.now in
    let items = sym (c.as_slice-name-items.ensures ∙ ap (λ all. all.entries.items) c.deref.ensures) in (
      rw (← (fields_of-pairs attrs ∙ ap (λ entries. fields_from (plain_attributes entries)) items)) (IsMembershipSoFar-none _ _ _),
      Serves-first c.args.values.now.entries (entries_left c.new-left.result) c.as_slice-name-items.result.now c.new-left.ensures.all
          c.new-left.ensures.ascend (rw items at (out-Attributes attrs).attrs.value.sorted_by_name),
    )

-- the answer for the next attribute joins those before, and its entry is passed
pub member::fields_have-loop-name-preserved : goal.member::fields_have-loop-name-preserved
member::fields_have-loop-name-preserved t c =
    let extensions = c.args.extensions.now in
    let values = c.args.values.now in
    let item = c.loop-name-item.result in
    let name = string_bytes item.0 in
    let attribute = attribute_of item.1 in
    let parts = attribute_of-parts item.1 in
    let left = entries_left c.loop-name.left in
    let before = rw (drop-at _ c.loop-name.name-index item c.loop-name-test.true c.loop-name-item.is) at c.loop-name.invariant in
    let found : option_copied c.value_at.result ≡ get_by_text values name =
    c.value_at.ensures.value ∙ (ap (λ text. value_at text left) c.deref-in-loop-name.ensures ∙ before.1.finds.0) in
    let IsAnswer : Answer → Type 0 = IsMembershipForEntry extensions (entry_at name (entries_of values)) attribute in
    let right : IsAnswer c.match-value_at.answer = elim c.match-value_at.branch [
      | member::fields_have-in-Some w ↦ (
          let call = w.typecheck_restricted_expr-answer in
          let IsAnswerFor : Ty → Type 0 = λ ty. IsMembershipFor extensions (tree_of w.in-Some.value.now) ty call.result in
          let right : IsAnswerFor (ty_of w.deref-in-Some.result.now) = record {
            yes = call.ensures.has;
            no = call.ensures.lacks;
            fault = call.ensures.fault;
          } in
          rw w.answer-is (IsMembershipForEntry-Some extensions name values attribute c.value_at.result
          w.in-Some.value call.result found w.in-Some.is
          (rw (ap ty_of w.deref-in-Some.ensures ∙ ap (λ (p : Bool × Ty). p.1) (sym parts)) at right))
          )
      | member::fields_have-in-None w ↦ IsMembershipForEntry-None extensions
          name values attribute c.value_at.result c.match-value_at.answer found
          w.in-None.is (w.answer-is ∙ ap (λ (p : Bool × Ty). Ok (not p.0)) (sym parts))
    ] in
    let after = entries_left c.value_at.new.self in
    let keeps = rw c.deref-in-loop-name.ensures at c.value_at.ensures.keeps in (
      FieldsSoFar-more extensions (entries_of values) (fields_of c.args.attrs.now) _
          name attribute c.loop-name.so_far c.match-value_at.answer c.both-so_far.result
          (record { yes = c.both-so_far.ensures.yes; no = c.both-so_far.ensures.no; fault = c.both-so_far.ensures.fault }) right before.0,
      Serves-next values.entries left after item _ before.1 c.value_at.ensures.ascend keeps,
    )

-- an attribute that doesn't fit decides at once
pub member::fields_have-returns-in-Ok-false : goal.member::fields_have-returns-in-Ok-false
member::fields_have-returns-in-Ok-false t c =
    let extensions = c.args.extensions.now in
    let values = c.args.values.now in
    let item = c.loop-name-item.result in
    let name = string_bytes item.0 in
    let attribute = attribute_of item.1 in
    let parts = attribute_of-parts item.1 in
    let left = entries_left c.loop-name.left in
    let before = rw (drop-at _ c.loop-name.name-index item c.loop-name-test.true c.loop-name-item.is) at c.loop-name.invariant in
    let found : option_copied c.value_at.result ≡ get_by_text values name =
    c.value_at.ensures.value ∙ (ap (λ text. value_at text left) c.deref-in-loop-name.ensures ∙ before.1.finds.0) in
    let IsAnswer : Answer → Type 0 = IsMembershipForEntry extensions (entry_at name (entries_of values)) attribute in
    let right : IsAnswer c.match-value_at.answer = elim c.match-value_at.branch [
      | member::fields_have-in-Some w ↦ (
          let call = w.typecheck_restricted_expr-answer in
          let IsAnswerFor : Ty → Type 0 = λ ty. IsMembershipFor extensions (tree_of w.in-Some.value.now) ty call.result in
          let right : IsAnswerFor (ty_of w.deref-in-Some.result.now) = record {
            yes = call.ensures.has;
            no = call.ensures.lacks;
            fault = call.ensures.fault;
          } in
          rw w.answer-is (IsMembershipForEntry-Some extensions name values attribute c.value_at.result
          w.in-Some.value call.result found w.in-Some.is
          (rw (ap ty_of w.deref-in-Some.ensures ∙ ap (λ (p : Bool × Ty). p.1) (sym parts)) at right))
          )
      | member::fields_have-in-None w ↦ IsMembershipForEntry-None extensions
          name values attribute c.value_at.result c.match-value_at.answer found
          w.in-None.is (w.answer-is ∙ ap (λ (p : Bool × Ty). Ok (not p.0)) (sym parts))
    ] in
    let more = FieldsSoFar-more extensions (entries_of values) (fields_of c.args.attrs.now) _
    name attribute c.loop-name.so_far c.match-value_at.answer c.both-so_far.result
    (record { yes = c.both-so_far.ensures.yes; no = c.both-so_far.ensures.no; fault = c.both-so_far.ensures.fault }) right before.0 in
    IsMembershipSoFar-stops c.both-so_far.result _ _ _ _ _ _ (c.in-Ok-false.is ∙ ap Ok (sym c.in-Ok-false.field-0-is ∙ c.in-Ok-false.field-0-test)) more

-- where none is left, the answers are those for all
pub member::fields_have-returns : goal.member::fields_have-returns
member::fields_have-returns t c =
    IsMembershipSoFar-all c.loop-name.so_far _ _ _ _
    (rw (drop_of_length-le c.as_slice-name-items.result.now c.loop-name-test.false) at c.loop-name.invariant.0)

-- a uid is of the entity type
pub types::Type::typecheck_restricted_expr-returns-in-Entity-EntityUid : goal.types::Type::typecheck_restricted_expr-returns-in-Entity-EntityUid
types::Type::typecheck_restricted_expr-returns-in-Entity-EntityUid t c =
    let uid = c.in-Entity-EntityUid.uid in
    let kind = c.in-Entity-EntityUid.kind in
    let right : IsMembershipFor c.args.extensions.now (tree_of c.args.expr.now) (ty_of c.args.self.now)
    (Ok c.has_uid.result) = IsMembershipFor-at _ _ _ _ _ _ (ap tree_of c.in-Entity-EntityUid.is-1 ∙ tree_of-uid uid)
    (ap ty_of c.in-Entity-EntityUid.is-0 ∙ ty_of-entity kind)
    (IsMembershipFor-uid c.args.extensions.now (uid_of uid) kind c.has_uid.result c.has_uid.ensures) in
    record { has = right.yes; lacks = right.no; fault = right.fault }

-- the elements of a set are of the element type
pub types::Type::typecheck_restricted_expr-returns-in-Some : goal.types::Type::typecheck_restricted_expr-returns-in-Some
types::Type::typecheck_restricted_expr-returns-in-Some t c =
    let values = c.in-Set-Set.values in
    let element = c.in-Some.element in
    let right : IsMembershipFor c.args.extensions.now (tree_of c.args.expr.now)
    (ty_of c.args.self.now) c.elements_have.result = IsMembershipFor-at _ _ _ _ _ _ (ap tree_of c.in-Set-Set.is-1
    ∙ tree_of-set values) (ap ty_of (c.in-Set-Set.is-0 ∙ ap type.Set c.in-Some.is) ∙ ty_of-set element)
    (rw (c.deref.ensures.value, ap ty_of c.deref-in-Some.ensures) at c.elements_have.ensures) in
    record { has = right.yes; lacks = right.no; fault = right.fault }

-- the entries of a record are of its attributes, where only those are listed
pub types::Type::typecheck_restricted_expr-returns-then-only_listed : goal.types::Type::typecheck_restricted_expr-returns-then-only_listed
types::Type::typecheck_restricted_expr-returns-then-only_listed t c =
    let attrs = c.in-Record-Record.attrs in
    let openness = c.in-Record-Record.open_attributes in
    let values = c.in-Record-Record.values in
    let right : IsMembershipFor c.args.extensions.now (tree_of c.args.expr.now)
    (ty_of c.args.self.now) c.fields_have.result = IsMembershipFor-at _ _ _ _ _ _
    (ap tree_of c.in-Record-Record.is-1 ∙ tree_of-record values) (ap ty_of c.in-Record-Record.is-0
    ∙ ty_of-record attrs openness) (IsMembershipFor-listed c.args.extensions.now (entries_of values)
    (fields_of attrs) openness c.fields_have.result
    (c.only_listed.ensures.0 c.if-only_listed.true) c.fields_have.ensures) in
    record { has = right.yes; lacks = right.no; fault = right.fault }

-- a record with an entry that isn't listed isn't of the type
pub types::Type::typecheck_restricted_expr-returns-else-only_listed : goal.types::Type::typecheck_restricted_expr-returns-else-only_listed
types::Type::typecheck_restricted_expr-returns-else-only_listed t c =
    let attrs = c.in-Record-Record.attrs in
    let openness = c.in-Record-Record.open_attributes in
    let values = c.in-Record-Record.values in
    let right : IsMembershipFor c.args.extensions.now (tree_of c.args.expr.now) (ty_of c.args.self.now) (Ok false) =
    IsMembershipFor-at _ _ _ _ _ _ (ap tree_of c.in-Record-Record.is-1 ∙ tree_of-record values)
    (ap ty_of c.in-Record-Record.is-0 ∙ ty_of-record attrs openness)
    (IsMembershipFor-unlisted c.args.extensions.now (entries_of values) (fields_of attrs) openness
    (λ listed. let e = c.only_listed.ensures.1 listed in cc)) in
    record { has = right.yes; lacks = right.no; fault = tt }

-- a call gives a value of the extension type
pub types::Type::typecheck_restricted_expr-returns-in-ExtensionType-ExtensionCall : goal.types::Type::typecheck_restricted_expr-returns-in-ExtensionType-ExtensionCall
types::Type::typecheck_restricted_expr-returns-in-ExtensionType-ExtensionCall t c =
    let name = c.in-ExtensionType-ExtensionCall.name in
    let function = c.in-ExtensionType-ExtensionCall.function in
    let args = c.in-ExtensionType-ExtensionCall.args in
    let right : IsMembershipFor c.args.extensions.now (tree_of c.args.expr.now)
    (ty_of c.args.self.now) c.call_has.result = IsMembershipFor-at _ _ _ _ _ _
    (ap tree_of c.in-ExtensionType-ExtensionCall.is-1 ∙ tree_of-call function args)
    (ap ty_of c.in-ExtensionType-ExtensionCall.is-0 ∙ ty_of-extension name)
    (rw c.deref-in-ExtensionType-ExtensionCall.ensures.value at c.call_has.ensures) in
    record { has = right.yes; lacks = right.no; fault = right.fault }
