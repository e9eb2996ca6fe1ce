use Rattle.std.proofs.Common.{◌≡◌, refl, ap, ◌∙◌}
use Rattle.std.proofs.Math.ListN.{drop_of_length-le}
use Rattle.std.specs.Bool.{Decides}
use Rattle.std.specs.Option.{is_some}
use Rattle.cedar_ast.proofs.TreeLemmas.{drop-at}
use Rattle.cedar_types.proofs.+sampled.Goals as goal
use Rattle.cedar_types.proofs.MemberParts.{ty_of-extension}
use Rattle.cedar_types.proofs.StatedSteps.{left-fails, left-first, left-next, sampled-Decides, type_same}
use Rattle.cedar_types.specs.Words.{AreInhabitedWith, IsInhabitedWith, Ty, extension_of, plain_name, ty_of, value_trees}

-- at first all attributes are left
pub stated::are_sampled-loop-attribute-init : goal.stated::are_sampled-loop-attribute-init
stated::are_sampled-loop-attribute-init t c =
    left-first (AreInhabitedWith c.args.extensions.now (value_trees c.args.samples.now)) c.args.attrs.now
    c.as_slice-attribute-items.result.now (c.as_slice-attribute-items.ensures ∙ ap (λ all. all.entries.items) c.deref.ensures)

-- an attribute whose type has no sample fails
pub stated::are_sampled-returns-then-not-is_inhabited_with :
    goal.stated::are_sampled-returns-then-not-is_inhabited_with
stated::are_sampled-returns-then-not-is_inhabited_with t c =
    let Lives = IsInhabitedWith c.args.extensions.now (value_trees c.args.samples.now) in
    let left = rw (drop-at _ c.loop-attribute.attribute-index c.loop-attribute-item.result c.loop-attribute-test.true
    c.loop-attribute-item.is) at c.loop-attribute.invariant in
    left-fails left
    (λ lives. let there = c.is_inhabited_with.ensures.1 (rw (type_same c.loop-attribute-item.result.1
    c.deref-in-loop-attribute.result.now c.deref-in-loop-attribute.ensures) lives) in
    let none = c.if-not-is_inhabited_with.true in absurd cc)

-- past one that has a sample the rest decides
pub stated::are_sampled-loop-attribute-preserved : goal.stated::are_sampled-loop-attribute-preserved
stated::are_sampled-loop-attribute-preserved t c =
    let Lives = IsInhabitedWith c.args.extensions.now (value_trees c.args.samples.now) in
    let left = rw (drop-at _ c.loop-attribute.attribute-index c.loop-attribute-item.result c.loop-attribute-test.true
    c.loop-attribute-item.is) at c.loop-attribute.invariant in
    left-next left
    (rw (type_same c.loop-attribute-item.result.1 c.deref-in-loop-attribute.result.now c.deref-in-loop-attribute.ensures) at (c.is_inhabited_with.ensures.0 c.if-not-is_inhabited_with.false))

-- an extension type has a sample exactly if one of the samples is of it
pub types::Type::is_inhabited_with-returns-in-ExtensionType :
    goal.types::Type::is_inhabited_with-returns-in-ExtensionType
types::Type::is_inhabited_with-returns-in-ExtensionType t c =
    let extensions = c.args.extensions.now in
    let samples = c.args.samples.now in
    let ty : Ty = extension_of (plain_name c.in-ExtensionType.name) in
    let is : ty_of c.args.self.now ≡ ty = ap ty_of c.in-ExtensionType.is ∙ ty_of-extension c.in-ExtensionType.name in
    let found = sampled-Decides extensions samples (ty_of c.args.self.now) c.sample_among.result
    c.sample_among.ensures.among c.sample_among.ensures.has c.sample_among.ensures.none in
    let there : Decides (is_some c.sample_among.result) (IsInhabitedWith extensions (value_trees samples) ty) = rw is at found in
    rw (c.is_some.ensures, is) there

-- where none is left, all have samples
pub stated::are_sampled-returns : goal.stated::are_sampled-returns
stated::are_sampled-returns t c =
    let left = rw (drop_of_length-le c.as_slice-attribute-items.result.now c.loop-attribute-test.false) at c.loop-attribute.invariant in
    (λ _. left.0 tt, λ _. refl)
