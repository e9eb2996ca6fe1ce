use Rattle.std.proofs.Common.{ap, inl, map, refl, string_bytes, ◌∙◌}
use Rattle.std.proofs.lemmas.Simd.{map-map}
use Rattle.std.specs.Option.{option_copied}
use Rattle.cedar_ast.proofs.Lists.{Contains-cons}
use Rattle.cedar_conformance.proofs.NameLemmas.{is_listed, names_next, names_start, not_listed}
use Rattle.cedar_conformance.proofs.mismatch.unlisted.Goals as goal
use Rattle.cedar_conformance.specs.Mismatch.{key_texts}
use Rattle.cedar_types.specs.Words.{attribute_of, field_names, fields_of}

-- at first all names are left
pub loop-name-init : goal.loop-name-init
loop-name-init g c =
    let keys = c.into_iter-name-iterator.ensures.into_iter_gives ∙ c.keys-name-items.ensures.rest in
    rw (ap (map string_bytes) keys ∙ map-map string_bytes (λ entry. entry.0) c.args.values.now.entries)
    (names_start (field_names (fields_of c.args.attrs.now)) (key_texts c.args.values.now))

-- one that isn't found is one that isn't listed
pub returns-in-None-get_attr-clause-some : goal.returns-in-None-get_attr-clause-some
returns-in-None-get_attr-clause-some g c =
    let name = string_bytes c.in-Some.name.now in
    let so_far = rw c.in-Some.ensures.steps at c.loop-name.invariant in (
      so_far.within name (Contains-cons name _ name (inl refl)),
      not_listed attribute_of name (fields_of c.args.attrs.now) _ (rw c.deref.ensures at c.get_attr.ensures.attribute)
          (ap option_copied c.in-None-get_attr.is),
    )

-- past one that is found the others decide
pub loop-name-preserved : goal.loop-name-preserved
loop-name-preserved g c =
    let name = string_bytes c.in-Some.name.now in
    let listed = field_names (fields_of c.args.attrs.now) in
    names_next listed (key_texts c.args.values.now) name _ (rw c.in-Some.ensures.steps at c.loop-name.invariant)
    (is_listed attribute_of name (fields_of c.args.attrs.now) _ c.in_default.field-0.now
    (rw c.deref.ensures at c.get_attr.ensures.attribute) (ap option_copied c.in_default.is))
