use Rattle.std.proofs.Common.{ap, inl, refl, string_bytes, ◌∙◌}
use Rattle.cedar_ast.proofs.TreeLemmas.{tree_of-record}
use Rattle.cedar_ast.specs.Words.{entries_of, tree_of, trees_of}
use Rattle.cedar_conformance.proofs.EntryWalk.{entries_next, entries_start, keys_in_order}
use Rattle.cedar_conformance.proofs.MismatchLemmas.{tree_at-index}
use Rattle.cedar_conformance.proofs.NamingLaws.{named_at, named_under, naming_lacks, naming_of_attribute, naming_of_element}
use Rattle.cedar_conformance.proofs.Outcomes.{always}
use Rattle.cedar_conformance.proofs.naming.+naming.Goals as goal
use Rattle.cedar_conformance.specs.Plain.{attribute_step, noted_fault, under_step}
use Rattle.cedar_entities.specs.Words.{Exists}
use Rattle.cedar_schema.specs.Words.{schema_of}

-- what is wrong with an element is wrong with the set
pub element_naming-returns-in-Some-clause-answer : goal.element_naming-returns-in-Some-clause-answer
element_naming-returns-in-Some-clause-answer t c =
    let values = c.args.values.now in
    let value = c.index-values-index.result in
    rw c.in_ok-under.ensures
    (naming_of_element (schema_of c.args.existing.now.schema.now) (trees_of values) c.loop-index.index (tree_of value) (noted_fault c.in-Some.fault)
    (tree_at-index values c.loop-index.index value c.loop-index-test.true c.index-values-index.is)
    (rw c.in-Some.is at c.in_ok-fault.ensures.answer))

-- a set fails where an element does
pub element_naming-returns-in_err-fault-clause-memory : goal.element_naming-returns-in_err-fault-clause-memory
element_naming-returns-in_err-fault-clause-memory t c =
    let values = c.args.values.now in
    let value = c.index-values-index.result in
    let stands = tree_at-index values c.loop-index.index value c.loop-index-test.true c.index-values-index.is in
    always c.from_residual.result (λ each. c.in_err-fault.ensures.memory
    (named_at (Exists (schema_of c.args.existing.now.schema.now)) (trees_of values) c.loop-index.index (tree_of value) stands each))

-- so it does where the steps to the element aren't told
pub element_naming-returns-in_err-under-clause-memory : goal.element_naming-returns-in_err-under-clause-memory
element_naming-returns-in_err-under-clause-memory t c =
    let schema = schema_of c.args.existing.now.schema.now in
    let values = c.args.values.now in
    let value = c.index-values-index.result in
    let stands = tree_at-index values c.loop-index.index value c.loop-index-test.true c.index-values-index.is in
    let lacks = naming_lacks schema (tree_of value) (noted_fault c.in-Some.fault) (rw c.in-Some.is at c.in_ok-fault.ensures.answer) in
    always c.from_residual-in_err-under.result (λ each. lacks
    (named_at (Exists schema) (trees_of values) c.loop-index.index (tree_of value) stands each))

-- at first all entries are left
pub entry_naming-loop-name-init : goal.entry_naming-loop-name-init
entry_naming-loop-name-init t c =
    let values = c.args.values.now in
    let given = c.into_iter-name-iterator.ensures.into_iter_gives in
    rw given.0 (entries_start (Exists (schema_of c.args.existing.now.schema.now)) (entries_of values) (keys_in_order values.entries given.5))

-- what is wrong with a value is wrong with the record
pub entry_naming-returns-in-Some-2-clause-answer : goal.entry_naming-returns-in-Some-2-clause-answer
entry_naming-returns-in-Some-2-clause-answer t c =
    let name = string_bytes c.in-Some.name.now in
    let value = tree_of c.in-Some.value.now in
    let so_far = rw c.in-Some.ensures.steps at c.loop-name.invariant in
    rw (c.in_ok-under.ensures ∙ ap (λ text. under_step (attribute_step text) (noted_fault c.in-Some-2.fault)) c.in_ok-clone.ensures.cases)
    (naming_of_attribute (schema_of c.args.existing.now.schema.now) (entries_of c.args.values.now) name value (noted_fault c.in-Some-2.fault)
    (so_far.within name value (inl (refl, refl))) (rw c.in-Some-2.is at c.in_ok-fault.ensures.answer))

-- a record fails where a value does
pub entry_naming-returns-in_err-fault-clause-memory : goal.entry_naming-returns-in_err-fault-clause-memory
entry_naming-returns-in_err-fault-clause-memory t c =
    let name = string_bytes c.in-Some.name.now in
    let value = tree_of c.in-Some.value.now in
    let so_far = rw c.in-Some.ensures.steps at c.loop-name.invariant in
    always c.from_residual.result (λ each. c.in_err-fault.ensures.memory
    (named_under (Exists (schema_of c.args.existing.now.schema.now)) (entries_of c.args.values.now) name value
    (so_far.within name value (inl (refl, refl))) each))

-- so it does where the name isn't told
pub entry_naming-returns-in_err-clone-clause-memory : goal.entry_naming-returns-in_err-clone-clause-memory
entry_naming-returns-in_err-clone-clause-memory t c =
    let schema = schema_of c.args.existing.now.schema.now in
    let name = string_bytes c.in-Some.name.now in
    let value = tree_of c.in-Some.value.now in
    let so_far = rw c.in-Some.ensures.steps at c.loop-name.invariant in
    let lacks = naming_lacks schema value (noted_fault c.in-Some-2.fault) (rw c.in-Some-2.is at c.in_ok-fault.ensures.answer) in
    always c.from_residual-in_err-clone.result (λ each. lacks
    (named_under (Exists schema) (entries_of c.args.values.now) name value (so_far.within name value (inl (refl, refl))) each))

-- and where its step isn't
pub entry_naming-returns-in_err-under-clause-memory : goal.entry_naming-returns-in_err-under-clause-memory
entry_naming-returns-in_err-under-clause-memory t c =
    let schema = schema_of c.args.existing.now.schema.now in
    let name = string_bytes c.in-Some.name.now in
    let value = tree_of c.in-Some.value.now in
    let so_far = rw c.in-Some.ensures.steps at c.loop-name.invariant in
    let lacks = naming_lacks schema value (noted_fault c.in-Some-2.fault) (rw c.in-Some-2.is at c.in_ok-fault.ensures.answer) in
    always c.from_residual-in_err-under.result (λ each. lacks
    (named_under (Exists schema) (entries_of c.args.values.now) name value (so_far.within name value (inl (refl, refl))) each))

-- past an entry that names what exists the others decide
pub entry_naming-loop-name-preserved : goal.entry_naming-loop-name-preserved
entry_naming-loop-name-preserved t c =
    let name = string_bytes c.in-Some.name.now in
    let value = tree_of c.in-Some.value.now in
    entries_next (Exists (schema_of c.args.existing.now.schema.now)) (entries_of c.args.values.now) name value _
    (rw c.in-Some.ensures.steps at c.loop-name.invariant) (rw c.in_default.is at c.in_ok-fault.ensures.answer)

-- a record is gone over entry by entry
pub naming_fault-returns-in-Record-clause-answer : goal.naming_fault-returns-in-Record-clause-answer
naming_fault-returns-in-Record-clause-answer t c = rw (ap tree_of c.in-Record.is ∙ tree_of-record c.in-Record.values) c.entry_naming.ensures.answer

pub naming_fault-returns-in-Record-clause-memory : goal.naming_fault-returns-in-Record-clause-memory
naming_fault-returns-in-Record-clause-memory t c = rw (ap tree_of c.in-Record.is ∙ tree_of-record c.in-Record.values) c.entry_naming.ensures.memory
