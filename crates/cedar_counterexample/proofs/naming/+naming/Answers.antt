use Rattle.std.proofs.Common.{◌≡◌, List, arith, ap, inl, refl, string_bytes, subst, sym, ◌∙◌, Global}
use Rattle.std.proofs.lemmas.Result.{IfOk-weaker}
use Rattle.std.proofs.lemmas.Str.{IsUtf8-string_bytes}
use Rattle.std.specs.Option.{option_map}
use Rattle.std.specs.declared.string.String.{String}
use Rattle.cedar_ast.proofs.TreeLemmas.{tree_of-record}
use Rattle.cedar_counterexample.proofs.NamingLemmas.{naming_filled, naming_next, naming_none, naming_rest, naming_start, naming_start_all}
use Rattle.cedar_counterexample.proofs.Sizes.{attribute_smaller}
use Rattle.cedar_counterexample.proofs.StartLemmas.{AreInhabitedWith-of}
use Rattle.cedar_counterexample.proofs.TypeCounterexamples.{ty_of-any_set}
use Rattle.cedar_counterexample.proofs.naming.+naming.Goals as goal
use Rattle.cedar_counterexample.specs.Words.{AttributeType, IsInhabitedWith, IsNaming, IsNamingAnswer, IsNamingRecord, IsSortedByName-fields, KeepsIds, attribute_of, entries_of, fields_from, fields_of, map_value, naming_of, naming_start_of, plain_attributes, record_naming, record_of, tree_of, ty_of, value_trees}
use Rattle.cedar_types.proofs.MemberParts.{ty_of-entity}
use Rattle.cedar_types.proofs.StatedSteps.{type_same}
use Rattle.cedar_types.specs.declared.types.Type.TheVariants as type

-- at first all attributes are left
pub naming_attribute-loop-name-init : goal.naming_attribute-loop-name-init
naming_attribute-loop-name-init g t c =
    rw (c.into_iter-name-iterator.ensures.into_iter_gives, c.iter-name-items.ensures.attributes)
    (naming_start_all (g.S.Scope.ExistsInOld c.args.scope.now) (g.S.Scope.ExistsInNew c.args.scope.now) (fields_of c.args.attrs.now))

-- the type of an attribute is smaller than the record's, and inhabited
pub naming_attribute-naming_value-requires : goal.naming_attribute-naming_value-requires
naming_attribute-naming_value-requires g t c κs within =
    let extensions = c.args.search.now.extensions.now in
    let samples = value_trees c.args.search.now.samples.now in
    let all = fields_of c.args.attrs.now in
    let name = string_bytes c.in-Some.name.now in
    let attribute = attribute_of c.in-Some.attribute.now in
    let so_far = rw c.in-Some.ensures.steps at c.loop-name.invariant in
    let same = type_same c.in-Some.attribute.now c.deref.result.now c.deref.ensures in
    let has = so_far.within name attribute.0 attribute.1 (inl (refl, refl, refl)) in
    let less = rw (← same) at (attribute_smaller all name attribute.0 attribute.1 has) in (
      omega (arith, less, c.decreases),
      (
        within,
        subst (IsInhabitedWith extensions samples) (sym same) (AreInhabitedWith-of extensions samples all name attribute.0 attribute.1 c.requires has),
      ),
    )

-- what names a uid in an attribute is a start of the record
pub naming_attribute-returns-in-Some-found : goal.naming_attribute-returns-in-Some-found
naming_attribute-returns-in-Some-found g t c =
    let extensions = c.args.search.now.extensions.now in
    let all = fields_of c.args.attrs.now in
    let name = string_bytes c.in-Some.name.now in
    let attribute = attribute_of c.in-Some.attribute.now in
    let so_far = rw c.in-Some.ensures.steps at c.loop-name.invariant in
    let same = type_same c.in-Some.attribute.now c.deref.result.now c.deref.ensures in
    let found = rw c.in-Some-found.is at c.in_ok-found.ensures in
    rw c.in_ok-naming_with.ensures
    (naming_start extensions (g.S.Scope.ExistsInOld c.args.scope.now) (g.S.Scope.ExistsInNew c.args.scope.now) all c.args.openness name attribute.0
    attribute.1 (naming_of c.in-Some-found.naming) (IsSortedByName-fields c.args.attrs.now) (IsUtf8-string_bytes c.in-Some.name.now)
    (so_far.within name attribute.0 attribute.1 (inl (refl, refl, refl))) (rw same at found))

-- past an attribute whose ids are kept the others decide
pub naming_attribute-loop-name-preserved : goal.naming_attribute-loop-name-preserved
naming_attribute-loop-name-preserved g t c =
    let Old = g.S.Scope.ExistsInOld c.args.scope.now in
    let New = g.S.Scope.ExistsInNew c.args.scope.now in
    let name = string_bytes c.in-Some.name.now in
    let attribute = attribute_of c.in-Some.attribute.now in
    let same = type_same c.in-Some.attribute.now c.deref.result.now c.deref.ensures in
    let found = rw c.in_default.is at c.in_ok-found.ensures in
    naming_next Old New (fields_of c.args.attrs.now) name attribute.0 attribute.1 _ (rw c.in-Some.ensures.steps at c.loop-name.invariant)
    (subst (KeepsIds Old New) same found)

-- where none is left, all are kept
pub naming_attribute-returns : goal.naming_attribute-returns
naming_attribute-returns g t c =
    naming_none (g.S.Scope.ExistsInOld c.args.scope.now) (g.S.Scope.ExistsInNew c.args.scope.now) (fields_of c.args.attrs.now) _
    (ap (λ (items : List (String Global × AttributeType)). fields_from (plain_attributes items)) c.in-None.ensures.steps.0)
    c.loop-name.invariant

-- where the attributes keep their ids, the names that aren't listed decide
pub naming_names-returns : goal.naming_names-returns
naming_names-returns g t c =
    let extensions = c.args.search.now.extensions.now in
    let Old = g.S.Scope.ExistsInOld c.args.scope.now in
    let New = g.S.Scope.ExistsInNew c.args.scope.now in
    let all = fields_of c.args.attrs.now in
    let kept = rw c.in_default.is at c.in_ok-found.ensures in
    IfOk-weaker c.naming_open.result _ (λ found. IsNamingRecord extensions Old New all c.args.openness (option_map naming_start_of found))
    (λ found each. naming_rest extensions Old New all c.args.openness (option_map naming_start_of found) kept (each extensions)) c.naming_open.ensures

-- what is filled up from a start names what the start does
pub naming_attributes-returns-in_ok-values-in-Some : goal.naming_attributes-returns-in_ok-values-in-Some
naming_attributes-returns-in_ok-values-in-Some g t c =
    let extensions = c.args.search.now.extensions.now in
    let values = c.in_ok-values-in-Some.values in
    let begun = rw c.in-Some.is at c.in_ok-start.ensures in
    let whole = record_naming (record { start = record { values = values; steps = c.in-Some.field-0.start.steps }; uid = c.in-Some.field-0.uid }) in
    naming_filled extensions (g.S.Scope.ExistsInOld c.args.scope.now) (g.S.Scope.ExistsInNew c.args.scope.now) (fields_of c.args.attrs.now)
    c.args.openness whole (entries_of c.in-Some.field-0.start.values) (entries_of values) (IsSortedByName-fields c.args.attrs.now) begun
    c.in_ok-values-in-Some.ensures refl

-- the entries that were found make the record
pub naming_record-returns-in-Some : goal.naming_record-returns-in-Some
naming_record-returns-in-Some g t c =
    let found = rw c.in-Some.is at c.in_ok-start.ensures in
    rw (tree_of-record c.in-Some.field-0.start.values) found

-- of entities the uids decide
pub naming_value-returns-in-Entity : goal.naming_value-returns-in-Entity
naming_value-returns-in-Entity g t c =
    let extensions = c.args.search.now.extensions.now in
    IfOk-weaker c.naming_entity.result _
    (λ found. IsNamingAnswer extensions (g.S.Scope.ExistsInOld c.args.scope.now) (g.S.Scope.ExistsInNew c.args.scope.now) (ty_of c.args.ty.now)
    (option_map naming_of found))
    (λ found each. rw (ap ty_of c.in-Entity.is ∙ ty_of-entity c.in-Entity.kind) (each extensions)) c.naming_entity.ensures

-- of any sets too
pub naming_value-returns-in-None : goal.naming_value-returns-in-None
naming_value-returns-in-None g t c =
    let extensions = c.args.search.now.extensions.now in
    IfOk-weaker c.naming_any_set.result _
    (λ found. IsNamingAnswer extensions (g.S.Scope.ExistsInOld c.args.scope.now) (g.S.Scope.ExistsInNew c.args.scope.now) (ty_of c.args.ty.now)
    (option_map naming_of found))
    (λ found each. rw (ap ty_of (c.in-Set.is ∙ ap type.Set c.in-None.is) ∙ ty_of-any_set) (each extensions)) c.naming_any_set.ensures
