use Rattle.std.proofs.Common.{◌≡◌, true, false, Some, ap, arith, inl, refl, string_bytes, subst, sym, ◌∙◌}
use Rattle.std.proofs.lemmas.Result.{IfOk-weaker}
use Rattle.cedar_ast.proofs.TreeLemmas.{tree_of-record}
use Rattle.cedar_ast.proofs.ValueCopies.{no_entries}
use Rattle.cedar_counterexample.proofs.FillingLemmas.{filling_put, filling_there, missing_entry, present_entry, record_sample}
use Rattle.cedar_counterexample.proofs.Sizes.{attribute_smaller}
use Rattle.cedar_counterexample.proofs.StartLemmas.{AreInhabitedWith-of}
use Rattle.cedar_counterexample.proofs.samples.+samples.Goals as goal
use Rattle.cedar_counterexample.proofs.samples.+samples.Goals.{fill-else-attribute-via-then-attribute+else-not-contains_key, fill-else-attribute-via-else-attribute}
use Rattle.cedar_counterexample.specs.Words.{IsInhabitedWith, IsSortedByName-fields, IsValueOf, Tree, attribute_of, entries_of, entry_at, fields_of, tree_of, ty_of, value_trees}
use Rattle.cedar_types.proofs.MemberParts.{ty_of-entity, ty_of-record}
use Rattle.cedar_types.proofs.StatedSteps.{flag_same, type_same}

-- the type of an attribute is smaller than the record's, and inhabited
pub fill-sample_of-requires : goal.fill-sample_of-requires
fill-sample_of-requires t c =
    let extensions = c.args.search.now.extensions.now in
    let samples = value_trees c.args.search.now.samples.now in
    let all = fields_of c.args.attrs.now in
    let name = string_bytes c.in-Some.name.now in
    let attribute = attribute_of c.in-Some.attribute.now in
    let so_far = rw c.in-Some.ensures.steps at c.loop-name.invariant in
    let same = type_same c.in-Some.attribute.now c.deref.result.now c.deref.ensures in
    let has = so_far.within name attribute.0 attribute.1 (inl (refl, refl, refl)) in
    let less = rw (← same) at (attribute_smaller all name attribute.0 attribute.1 has) in (
      omega (arith, less, c.decreases),
      subst (IsInhabitedWith extensions samples) (sym same) (AreInhabitedWith-of extensions samples all name attribute.0 attribute.1 c.requires has),
    )

-- a sample stands under the name of a required attribute that was missing
pub fill-loop-name-preserved-then-not-contains_key :
    goal.fill-loop-name-preserved-then-not-contains_key
fill-loop-name-preserved-then-not-contains_key t c =
    let extensions = c.args.search.now.extensions.now in
    let all = fields_of c.args.attrs.now in
    let start = entries_of c.args.start in
    let now = entries_of c.loop-name.values in
    let new = entries_of c.put.new.values in
    let name = string_bytes c.in-Some.name.now in
    let attribute = attribute_of c.in-Some.attribute.now in
    let value = tree_of c.in_ok-sample.sample in
    let so_far = rw c.in-Some.ensures.steps at c.loop-name.invariant in
    let same = type_same c.in-Some.attribute.now c.deref.result.now c.deref.ensures in
    let needed = flag_same c.in-Some.attribute.now ∙ c.if-attribute.true in
    let none = rw c.as_str.ensures.value at (missing_entry c.as_str.result.now c.loop-name.values (sym c.if-not-contains_key.ensures)) in
    filling_put extensions all start name attribute.0 attribute.1 _ now so_far value new needed none
    (rw c.in_ok-clone.ensures.cases at c.in_ok-put.ensures.put) (rw same at c.in_ok-sample.ensures)

-- an attribute that is there, or may be missing, stays as it is
pub fill-loop-name-preserved : goal.fill-loop-name-preserved
fill-loop-name-preserved t c =
    let extensions = c.args.search.now.extensions.now in
    let all = fields_of c.args.attrs.now in
    let start = entries_of c.args.start in
    let now = entries_of c.loop-name.values in
    let name = string_bytes c.in-Some.name.now in
    let attribute = attribute_of c.in-Some.attribute.now in
    let so_far = rw c.in-Some.ensures.steps at c.loop-name.invariant in
    let there : attribute.0 ≡ true → (value : Tree) × (entry_at name now ≡ Some value) = elim c.else-attribute.branch [
      | fill-else-attribute-via-then-attribute+else-not-contains_key w ↦
          λ _. rw w.as_str.ensures.value at (present_entry w.as_str.result.now c.loop-name.values (sym w.if-not-contains_key.ensures))
      | fill-else-attribute-via-else-attribute w ↦
          λ needed. absurd (let optional = flag_same c.in-Some.attribute.now ∙ w.if-attribute.false in
          let wrong : true ≡ false = sym needed ∙ optional in cc)
    ] in
    filling_there extensions all start name attribute.0 attribute.1 _ now so_far there

-- the uid of an entity is a sample of its type
pub sample_of-returns-in-Entity : goal.sample_of-returns-in-Entity
sample_of-returns-in-Entity t c =
    let extensions = c.args.search.now.extensions.now in
    IfOk-weaker c.sample_entity.result _ (λ sample. IsValueOf extensions (ty_of c.args.ty.now) (tree_of sample))
    (λ sample each. rw (ap ty_of c.in-Entity.is ∙ ty_of-entity c.in-Entity.kind) (each extensions)) c.sample_entity.ensures

-- what is filled up from no entries is a sample of the record
pub sample_of-returns-in_ok-values-in-Record : goal.sample_of-returns-in_ok-values-in-Record
sample_of-returns-in_ok-values-in-Record t c =
    let extensions = c.args.search.now.extensions.now in
    let values = c.in_ok-values-in-Record.values in
    let fields = fields_of c.in-Record.attrs in
    let openness = c.in-Record.open_attributes in
    let sample = record_sample extensions fields openness (entries_of c.new-in-Record.result) (entries_of values)
    (IsSortedByName-fields c.in-Record.attrs) (no_entries c.new-in-Record.result c.new-in-Record.ensures.empty)
    c.in_ok-values-in-Record.ensures in
    rw (tree_of-record values, ap ty_of c.in-Record.is ∙ ty_of-record c.in-Record.attrs openness) sample
