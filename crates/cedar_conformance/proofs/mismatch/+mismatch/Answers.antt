use Rattle.std.proofs.Common.{[], List, Bool, ap, arith, inl, refl, string_bytes, subst, sym, ◌∙◌}
use Rattle.std.proofs.lemmas.Result.{IfOk-weaker, on_err_weaker}
use Rattle.std.specs.Option.{option_copied, option_map}
use Rattle.cedar_ast.proofs.TreeLemmas.{entry_at-entries, entry_names-entries, tree_of-record, tree_of-set}
use Rattle.cedar_ast.specs.Words.{set_value}
use Rattle.cedar_ast.specs.declared.value.RestrictedExpr.{RestrictedExpr}
use Rattle.cedar_conformance.proofs.FaultLaws.{each_at, fault_lacks}
use Rattle.cedar_conformance.proofs.MismatchLemmas.{fault_here, fault_of_element, fields_next, record_answer, tree_at-index}
use Rattle.cedar_conformance.proofs.Outcomes.{always}
use Rattle.cedar_conformance.proofs.mismatch.+mismatch.Goals as goal
use Rattle.cedar_conformance.specs.Mismatch.{IsTypeAnswer}
use Rattle.cedar_conformance.specs.Plain.{element_step, missing_attribute, noted_fault, under_step}
use Rattle.cedar_counterexample.proofs.Sizes.{attribute_smaller}
use Rattle.cedar_type_rules.proofs.MemberLaws.{HasFieldsBy-of}
use Rattle.cedar_types.proofs.EqualityLaws.{attribute_of-parts}
use Rattle.cedar_types.proofs.MemberParts.{ty_of-record, ty_of-set}
use Rattle.cedar_types.proofs.StatedSteps.{type_same}
use Rattle.cedar_types.specs.declared.types.Type.TheVariants as type
use Rattle.cedar_types.specs.Words.{Gives, Has, HasField, Ty, attribute_of, entries_of, fields_of, map_value, record_of, set_of, tree_of, trees_of, ty_of}

-- an attribute that has to be there and isn't is missing
pub attribute_fault-returns-in_default-clause-answer : goal.attribute_fault-returns-in_default-clause-answer
attribute_fault-returns-in_default-clause-answer t c = λ values fields openness stands has.
    let name = string_bytes c.args.name.now in
    let ty = (attribute_of c.args.attribute.now).1 in
    let required = ap (λ (it : Bool × Ty). it.0) (attribute_of-parts c.args.attribute.now) ∙ c.if-not-attribute.false in
    rw (c.here.ensures ∙ ap (λ text. record { steps = []; kind = missing_attribute text }) c.in_ok-clone.ensures.cases)
    (fault_here c.args.search.now.extensions.now (map_value values) (record_of fields openness) (missing_attribute name)
    ((ty, subst (λ flag. HasField fields name flag ty) required has), stands ∙ ap (λ found. option_map tree_of (option_copied found)) c.in_default.is))

-- the type of an attribute has fewer parts than the record
pub fields_fault-attribute_fault-requires : goal.fields_fault-attribute_fault-requires
fields_fault-attribute_fault-requires t c =
    let fields = fields_of c.args.attrs.now in
    let name = string_bytes c.in-Some.name.now in
    let attribute = attribute_of c.in-Some.attribute.now in
    let so_far = rw c.in-Some.ensures.steps at c.loop-name.invariant in
    let has = so_far.within name attribute.0 attribute.1 (inl (refl, refl, refl)) in
    let less = attribute_smaller fields name attribute.0 attribute.1 has in (omega (arith, less), tt)

-- what is wrong at an attribute is wrong with the record
pub fields_fault-returns-in-Some-2-clause-answer : goal.fields_fault-returns-in-Some-2-clause-answer
fields_fault-returns-in-Some-2-clause-answer t c = λ openness.
    let values = c.args.values.now in
    let name = string_bytes c.in-Some.name.now in
    let attribute = attribute_of c.in-Some.attribute.now in
    let so_far = rw c.in-Some.ensures.steps at c.loop-name.invariant in
    let has = so_far.within name attribute.0 attribute.1 (inl (refl, refl, refl)) in
    let stands = entry_at-entries name values.entries ∙ ap (option_map tree_of) (sym c.get.ensures.value) in
    (rw c.in-Some-2.is at c.in_ok-fault.ensures.answer) (entries_of values) (fields_of c.args.attrs.now) openness stands has

-- past an attribute that is as it has to be the others decide
pub fields_fault-loop-name-preserved : goal.fields_fault-loop-name-preserved
fields_fault-loop-name-preserved t c =
    let values = c.args.values.now in
    let name = string_bytes c.in-Some.name.now in
    let attribute = attribute_of c.in-Some.attribute.now in
    let stands = entry_at-entries name values.entries ∙ ap (option_map tree_of) (sym c.get.ensures.value) in
    fields_next c.args.search.now.extensions.now (entries_of values) (fields_of c.args.attrs.now) name attribute.0 attribute.1 _
    (rw c.in-Some.ensures.steps at c.loop-name.invariant) (rw stands (rw c.in_default.is at c.in_ok-fault.ensures.answer))

-- a name too many is wrong with the record
pub record_fault-returns-in-Some-clause-answer : goal.record_fault-returns-in-Some-clause-answer
record_fault-returns-in-Some-clause-answer t c =
    let values = c.args.values.now in
    (rw c.in-Some.is at c.in_ok-fault.ensures.answer) (entries_of values) (entry_names-entries values.entries) c.args.search.now.extensions.now

-- where no name is one too many, the listed attributes decide
pub record_fault-returns-clause-answer : goal.record_fault-returns-clause-answer
record_fault-returns-clause-answer t c =
    let extensions = c.args.search.now.extensions.now in
    let values = entries_of c.args.values.now in
    let fields = fields_of c.args.attrs.now in
    let listed = (rw c.in_default.is at c.in_ok-fault.ensures.answer) values (entry_names-entries c.args.values.now.entries) in
    IfOk-weaker c.fields_fault.result _ (λ fault. IsTypeAnswer extensions (map_value values) (record_of fields c.args.openness) (option_map noted_fault fault))
    (λ fault answer. record_answer extensions values fields c.args.openness (option_map noted_fault fault) listed answer) c.fields_fault.ensures.answer

-- a record is held against the attributes of its type
pub type_fault-returns-in-Record-Record-clause-answer : goal.type_fault-returns-in-Record-Record-clause-answer
type_fault-returns-in-Record-Record-clause-answer t c =
    let extensions = c.args.search.now.extensions.now in
    let attrs = c.in-Record-Record.attrs in
    let openness = c.in-Record-Record.open_attributes in
    let values = c.in-Record-Record.values in
    rw (ap tree_of c.in-Record-Record.is-1 ∙ tree_of-record values, ap ty_of c.in-Record-Record.is-0 ∙ ty_of-record attrs openness)
    c.record_fault.ensures.answer

-- what is wrong with an element is wrong with the set
pub element_fault-returns-in-Some-clause-answer : goal.element_fault-returns-in-Some-clause-answer
element_fault-returns-in-Some-clause-answer t c =
    let values = c.args.values.now in
    let value = c.index-values-index.result in
    rw (c.in_ok-under.ensures ∙ ap (λ it. under_step (element_step c.loop-index.index) it) refl)
    (fault_of_element c.args.search.now.extensions.now (trees_of values) (ty_of c.args.ty.now) c.loop-index.index (tree_of value)
    (noted_fault c.in-Some.fault) (tree_at-index values c.loop-index.index value c.loop-index-test.true c.index-values-index.is)
    (rw c.in-Some.is at c.in_ok-fault.ensures.answer))

-- a value that isn't as it has to be fails where its fault isn't told for want of memory
pub attribute_fault-returns-in_err-clone-in-Some-2-clause-memory : goal.attribute_fault-returns-in_err-clone-in-Some-2-clause-memory
attribute_fault-returns-in_err-clone-in-Some-2-clause-memory t c =
    let extensions = c.args.search.now.extensions.now in
    let value = tree_of c.in-Some.value.now in
    let ty = ty_of c.deref.result.now in
    let lacks = fault_lacks extensions value ty (noted_fault c.in-Some-2.fault) (rw c.in-Some-2.is at c.in_ok-fault.ensures.answer) in
    always c.from_residual-in_err-clone-in-Some-2.result (rw (ap (λ found. option_map tree_of (option_copied found)) c.in-Some.is)
    (subst (λ of. ¬ Has extensions value of) (type_same c.args.attribute.now c.deref.result.now c.deref.ensures) lacks))

-- so it does where its steps aren't
pub attribute_fault-returns-in_err-under-in-Some-2-clause-memory : goal.attribute_fault-returns-in_err-under-in-Some-2-clause-memory
attribute_fault-returns-in_err-under-in-Some-2-clause-memory t c =
    let extensions = c.args.search.now.extensions.now in
    let value = tree_of c.in-Some.value.now in
    let ty = ty_of c.deref.result.now in
    let lacks = fault_lacks extensions value ty (noted_fault c.in-Some-2.fault) (rw c.in-Some-2.is at c.in_ok-fault.ensures.answer) in
    always c.from_residual-in_err-under-in-Some-2.result (rw (ap (λ found. option_map tree_of (option_copied found)) c.in-Some.is)
    (subst (λ of. ¬ Has extensions value of) (type_same c.args.attribute.now c.deref.result.now c.deref.ensures) lacks))

-- a set fails where an element does
pub element_fault-returns-in_err-fault-clause-memory : goal.element_fault-returns-in_err-fault-clause-memory
element_fault-returns-in_err-fault-clause-memory t c =
    let values = c.args.values.now in
    let value = c.index-values-index.result in
    let ty = ty_of c.args.ty.now in
    let stands = tree_at-index values c.loop-index.index value c.loop-index-test.true c.index-values-index.is in
    always c.from_residual.result (λ each. c.in_err-fault.ensures.memory
    (each_at (λ it. Has c.args.search.now.extensions.now it ty) (trees_of values) c.loop-index.index (tree_of value) stands each))

-- so it does where the steps to the element aren't told
pub element_fault-returns-in_err-under-clause-memory : goal.element_fault-returns-in_err-under-clause-memory
element_fault-returns-in_err-under-clause-memory t c =
    let extensions = c.args.search.now.extensions.now in
    let values = c.args.values.now in
    let value = c.index-values-index.result in
    let ty = ty_of c.args.ty.now in
    let stands = tree_at-index values c.loop-index.index value c.loop-index-test.true c.index-values-index.is in
    let lacks = fault_lacks extensions (tree_of value) ty (noted_fault c.in-Some.fault) (rw c.in-Some.is at c.in_ok-fault.ensures.answer) in
    always c.from_residual-in_err-under.result (λ each. lacks
    (each_at (λ it. Has extensions it ty) (trees_of values) c.loop-index.index (tree_of value) stands each))

-- a record fails where an attribute does
pub fields_fault-returns-in_err-fault-clause-memory : goal.fields_fault-returns-in_err-fault-clause-memory
fields_fault-returns-in_err-fault-clause-memory t c =
    let extensions = c.args.search.now.extensions.now in
    let values = c.args.values.now in
    let fields = fields_of c.args.attrs.now in
    let name = string_bytes c.in-Some.name.now in
    let attribute = attribute_of c.in-Some.attribute.now in
    let so_far = rw c.in-Some.ensures.steps at c.loop-name.invariant in
    let has = so_far.within name attribute.0 attribute.1 (inl (refl, refl, refl)) in
    let stands = entry_at-entries name values.entries ∙ ap (option_map tree_of) (sym c.get.ensures.value) in
    always c.from_residual.result (λ all. c.in_err-fault.ensures.memory
    (rw stands at (HasFieldsBy-of (Gives extensions) (entries_of values) fields name attribute.0 attribute.1 all has)))

-- and where a name is one too many
pub record_fault-returns-in_err-fault-clause-memory : goal.record_fault-returns-in_err-fault-clause-memory
record_fault-returns-in_err-fault-clause-memory t c =
    always c.from_residual.result (λ has. c.in_err-fault.ensures.memory (rw (entry_names-entries c.args.values.now.entries) at has.0))

-- a set is held against its elements' type
pub type_fault-returns-in-Some-clause-memory : goal.type_fault-returns-in-Some-clause-memory
type_fault-returns-in-Some-clause-memory t c =
    let values = c.in-Set-Set.values in
    let element = c.in-Some.element in
    let Elements : List RestrictedExpr → Ty → Type 0 = λ xs ty. Has c.args.search.now.extensions.now (set_value (trees_of xs)) (set_of ty) in
    let of = ty_of c.deref-in-Some.result.now in
    rw (ap tree_of c.in-Set-Set.is-1 ∙ tree_of-set values, ap ty_of (c.in-Set-Set.is-0 ∙ ap type.Set c.in-Some.is) ∙ ty_of-set element)
    (on_err_weaker c.element_fault.result
    (λ lacks has. lacks (subst (λ xs. Elements xs of) (sym c.deref.ensures.value)
    (subst (Elements values.items) (sym (ap ty_of c.deref-in-Some.ensures)) has))) c.element_fault.ensures.memory)

-- a record against the attributes of its type
pub type_fault-returns-in-Record-Record-clause-memory : goal.type_fault-returns-in-Record-Record-clause-memory
type_fault-returns-in-Record-Record-clause-memory t c =
    let attrs = c.in-Record-Record.attrs in
    let openness = c.in-Record-Record.open_attributes in
    let values = c.in-Record-Record.values in
    rw (ap tree_of c.in-Record-Record.is-1 ∙ tree_of-record values, ap ty_of c.in-Record-Record.is-0 ∙ ty_of-record attrs openness)
    c.record_fault.ensures.memory
