use Rattle.std.proofs.Common.{ap, sym, subst, ◌∙◌, string_bytes, map}
use Rattle.std.proofs.lemmas.Simd.{map-map}
use Rattle.cedar_ast.proofs.Inclusion.{Included-step, Included-head}
use Rattle.cedar_ast.proofs.TreeLemmas.{entry_names-entries, listed-Decides}
use Rattle.cedar_ast.proofs.fits.names_listed.Goals as goal
use Rattle.cedar_ast.specs.Words.{NamesListed, core_fields_of, core_names, entries_of, entry_names}

-- at first the names are those of the entries
pub loop-name-init : goal.loop-name-init
loop-name-init c =
    let listed = core_names (core_fields_of c.args.attrs.now) in
    rw (← (entry_names-entries c.args.values.now.entries
    ∙ (sym (map-map string_bytes (λ entry. entry.0) c.args.values.now.entries)
    ∙ ap (map string_bytes) (sym (c.into_iter-name-iterator.ensures.into_iter_gives ∙ c.keys-name-items.ensures.rest))))) (λ h. h, λ h. h)

-- a name that isn't listed fails, where the record is closed
pub returns-then-not-contains_key : goal.returns-then-not-contains_key
returns-then-not-contains_key c =
    let listed = core_names (core_fields_of c.args.attrs.now) in
    let names = entry_names (entries_of c.args.values.now) in
    let so_far = rw (ap (map string_bytes) c.in-Some.ensures.steps) at c.loop-name.invariant in
    let found = listed-Decides (string_bytes c.in-Some.name.now) c.args.attrs.now in (
      λ wrong. absurd cc,
      λ all. absurd ((subst (λ open_attrs. NamesListed open_attrs names listed → ⊥) (sym c.if-open_attrs.false) (λ within. let there = found.1 (Included-head _ _ _ (so_far.1 within)) in cc)) all),
    )

-- past a name that is listed the rest decides
pub loop-name-preserved : goal.loop-name-preserved
loop-name-preserved c =
    let listed = core_names (core_fields_of c.args.attrs.now) in
    let so_far = rw (ap (map string_bytes) c.in-Some.ensures.steps) at c.loop-name.invariant in
    let found = listed-Decides (string_bytes c.in-Some.name.now) c.args.attrs.now in
    Included-step _ _ _ so_far (found.0 (sym c.contains_key.ensures ∙ c.if-not-contains_key.false))
