use Rattle.std.proofs.Common.{Bool, not, ◌==◌, ◌∙◌, ap, sym, string_bytes}
use Rattle.std.specs.Bool.{Decides}
use Rattle.cedar_ast.proofs.+fits.Goals as goal
use Rattle.cedar_ast.proofs.+fits.Goals.{fits::fields_fit-in-Some-get, fits::fields_fit-in-None-get}
use Rattle.cedar_ast.proofs.Inclusion.{rest_alone, part_fails}
use Rattle.cedar_ast.proofs.TreeLemmas.{EntryFits-Some, EntryFits-None, not-Decides, tree_of-set, tree_of-record, tree_of-call, core_ty_of-set, core_ty_of-empty_set, core_ty_of-extension, core_ty_of-record, core_attribute_of-parts, no_tree-Decides, drop-at}
use Rattle.cedar_ast.specs.Words.{CoreTy, EntryFits, Fits, Tree, core_attribute_of, core_ty_of, entries_of, entry_at, tree_of}

-- an element that doesn't fit decides that not all do
pub fits::all_fit-returns-then-not-fits : goal.fits::all_fit-returns-then-not-fits
fits::all_fit-returns-then-not-fits t c =
    let so_far = rw (drop-at c.args.values.now c.loop-value.value-index c.value-item.result c.loop-value-test.true
    c.value-item.is) at c.loop-value.invariant in
    part_fails so_far (λ fits. absurd (let there = c.fits.ensures.1 fits in cc))

-- past one that fits the rest decides
pub fits::all_fit-loop-value-preserved : goal.fits::all_fit-loop-value-preserved
fits::all_fit-loop-value-preserved t c =
    let so_far = rw (drop-at c.args.values.now c.loop-value.value-index c.value-item.result c.loop-value-test.true
    c.value-item.is) at c.loop-value.invariant in
    rest_alone so_far (c.fits.ensures.0 c.if-not-fits.false)

-- an attribute whose entry doesn't fit decides that not all do
pub fits::fields_fit-returns-then-not-fits : goal.fits::fields_fit-returns-then-not-fits
fits::fields_fit-returns-then-not-fits t c =
    let values = entries_of c.args.values.now in
    let so_far = rw c.in-Some.ensures.steps at c.loop-name.invariant in
    let attribute = core_attribute_of c.in-Some.attribute.now in
    let parts = core_attribute_of-parts c.in-Some.attribute.now in
    let FitsIt : Tree → Type 0 = λ value. Fits c.args.extensions.now value attribute.1 in
    let Tells : Bool → Type 0 = λ fits. Decides fits (EntryFits FitsIt attribute.0 (entry_at (string_bytes c.in-Some.name.now) values)) in
    let decides : Tells c.match-get.fits = elim c.match-get.branch [
      | fits::fields_fit-in-Some-get w ↦ rw w.fits-is (EntryFits-Some FitsIt attribute.0 _ c.args.values.now c.get.result w.in-Some-get.value _ c.get.ensures.value
          w.in-Some-get.is (rw (ap (λ (p : Bool × CoreTy). p.1) (sym parts)) at w.fits-fits.ensures))
      | fits::fields_fit-in-None-get w ↦ EntryFits-None FitsIt attribute.0 _ c.args.values.now c.get.result _
          c.get.ensures.value w.in-None-get.is (not-Decides attribute.0 c.match-get.fits (w.fits-is
          ∙ ap (λ (p : Bool × CoreTy). not p.0) (sym parts)))
    ] in
    part_fails so_far (λ fits. absurd (let there = decides.1 fits in cc))

-- past one whose entry fits the rest decides
pub fits::fields_fit-loop-name-preserved : goal.fits::fields_fit-loop-name-preserved
fits::fields_fit-loop-name-preserved t c =
    let values = entries_of c.args.values.now in
    let so_far = rw c.in-Some.ensures.steps at c.loop-name.invariant in
    let attribute = core_attribute_of c.in-Some.attribute.now in
    let parts = core_attribute_of-parts c.in-Some.attribute.now in
    let FitsIt : Tree → Type 0 = λ value. Fits c.args.extensions.now value attribute.1 in
    let Tells : Bool → Type 0 = λ fits. Decides fits (EntryFits FitsIt attribute.0 (entry_at (string_bytes c.in-Some.name.now) values)) in
    let decides : Tells c.match-get.fits = elim c.match-get.branch [
      | fits::fields_fit-in-Some-get w ↦ rw w.fits-is (EntryFits-Some FitsIt attribute.0 _ c.args.values.now c.get.result w.in-Some-get.value _ c.get.ensures.value
          w.in-Some-get.is (rw (ap (λ (p : Bool × CoreTy). p.1) (sym parts)) at w.fits-fits.ensures))
      | fits::fields_fit-in-None-get w ↦ EntryFits-None FitsIt attribute.0 _ c.args.values.now c.get.result _
          c.get.ensures.value w.in-None-get.is (not-Decides attribute.0 c.match-get.fits (w.fits-is
          ∙ ap (λ (p : Bool × CoreTy). not p.0) (sym parts)))
    ] in
    rest_alone so_far (decides.0 c.if-not-fits.false)

-- a set fits the empty one exactly if it has no elements
pub value::RestrictedExpr::fits-returns-in-Set-EmptySet : goal.value::RestrictedExpr::fits-returns-in-Set-EmptySet
value::RestrictedExpr::fits-returns-in-Set-EmptySet t c =
    let values = c.in-Set-EmptySet.values in
    rw (
      ap tree_of c.in-Set-EmptySet.is-0 ∙ tree_of-set values,
      ap core_ty_of c.in-Set-EmptySet.is-1 ∙ core_ty_of-empty_set,
      c.is_empty.ensures ∙ ap (λ n. n == 0) values.ok.0,
    ) (no_tree-Decides values.items)

-- a set fits another exactly if each of its elements fits
pub value::RestrictedExpr::fits-returns-in-Set-Set : goal.value::RestrictedExpr::fits-returns-in-Set-Set
value::RestrictedExpr::fits-returns-in-Set-Set t c =
    let values = c.in-Set-Set.values in
    let element = c.in-Set-Set.element_ty in
    rw (ap tree_of c.in-Set-Set.is-0 ∙ tree_of-set values, ap core_ty_of c.in-Set-Set.is-1 ∙ core_ty_of-set element)
    (rw (c.deref-in-Set-Set.ensures, c.deref.ensures.value) at c.all_fit.ensures)

-- where all names are listed, a record fits exactly if its entries do
pub value::RestrictedExpr::fits-returns-then-names_listed : goal.value::RestrictedExpr::fits-returns-then-names_listed
value::RestrictedExpr::fits-returns-then-names_listed t c =
    let values = c.in-Record-Record.values in
    let attrs = c.in-Record-Record.attrs in
    rw (
      ap tree_of c.in-Record-Record.is-0 ∙ tree_of-record values,
      ap core_ty_of c.in-Record-Record.is-1 ∙ core_ty_of-record attrs c.in-Record-Record.open_attrs,
    )
    (λ e. (c.names_listed.ensures.0 c.if-names_listed.true, c.fields_fit.ensures.0 e), λ both. c.fields_fit.ensures.1 both.1)

-- where one isn't, it doesn't fit
pub value::RestrictedExpr::fits-returns-else-names_listed : goal.value::RestrictedExpr::fits-returns-else-names_listed
value::RestrictedExpr::fits-returns-else-names_listed t c =
    let values = c.in-Record-Record.values in
    let attrs = c.in-Record-Record.attrs in
    rw (
      ap tree_of c.in-Record-Record.is-0 ∙ tree_of-record values,
      ap core_ty_of c.in-Record-Record.is-1 ∙ core_ty_of-record attrs c.in-Record-Record.open_attrs,
    )
    (λ e. absurd cc, λ both. c.names_listed.ensures.1 both.0)

-- a call fits an extension type exactly if it returns it
pub value::RestrictedExpr::fits-returns-in-ExtensionCall-Extension : goal.value::RestrictedExpr::fits-returns-in-ExtensionCall-Extension
value::RestrictedExpr::fits-returns-in-ExtensionCall-Extension t c =
    let function = c.in-ExtensionCall-Extension.function in
    let args = c.in-ExtensionCall-Extension.args-0 in
    rw (
      ap tree_of c.in-ExtensionCall-Extension.is-0 ∙ tree_of-call function args,
      ap core_ty_of c.in-ExtensionCall-Extension.is-1 ∙ core_ty_of-extension c.in-ExtensionCall-Extension.name,
    ) c.returns.ensures
