use Rattle.std.proofs.Common.{◌≡◌, List, [], ◌∷◌, ap, arith, length, map, refl, sym, ◌∙◌}
use Rattle.std.proofs.lemmas.Bool.{false≢true}
use Rattle.std.specs.Slice.Iter.{iter_rest}
use Rattle.cedar_compare.proofs.LeftLemmas.{sure_all, sure_here, sure_more, sure_none}
use Rattle.cedar_compare.proofs.existing.union_has_uids.Goals as goal
use Rattle.cedar_compare.specs.Words.{Exists, HasUidOf, lub_names, schema_of, type_name}

-- at first all entity types are left
pub loop-name-init : goal.loop-name-init
loop-name-init c =
    sure_none (HasUidOf (Exists (schema_of c.args.schema.now))) (lub_names c.args.lub.now) _
    (ap (λ it. map type_name (iter_rest it)) c.into_iter-name-iterator.ensures.into_iter_gives ∙ c.iter-name-items.ensures.names)

-- one that has no uid is of the union
pub returns-then-not-has_uid : goal.returns-then-not-has_uid
returns-then-not-has_uid c =
    let name = type_name c.in-Some.name.now in
    let P = HasUidOf (Exists (schema_of c.args.schema.now)) in
    let here = sure_here P (lub_names c.args.lub.now) _ _ name (ap (map type_name) c.in-Some.ensures.steps) c.loop-name.invariant in (
      λ wrong. absurd (false≢true wrong),
      λ all. absurd (false≢true (sym c.if-not-has_uid.true ∙ c.has_uid.ensures.1 (all name here))),
    )

-- one more has a uid
pub loop-name-preserved : goal.loop-name-preserved
loop-name-preserved c =
    let P = HasUidOf (Exists (schema_of c.args.schema.now)) in
    sure_more P P (lub_names c.args.lub.now) _ _ (type_name c.in-Some.name.now) (ap (map type_name) c.in-Some.ensures.steps)
    (λ name has. has) (c.has_uid.ensures.0 c.if-not-has_uid.false) c.loop-name.invariant

-- of no items nothing is left
none_left : {A B : Type 0} (f : A → B) (xs : List A) → length xs ≡ 0 → map f xs ≡ []
none_left f [] is = refl
none_left f (x ∷ xs) is = absurd (omega (arith, is))

-- where none is left, all have uids
pub returns : goal.returns
returns c =
    let P = HasUidOf (Exists (schema_of c.args.schema.now)) in
    (λ _. sure_all P (lub_names c.args.lub.now) _ (none_left type_name _ c.in-None.ensures.steps.0) c.loop-name.invariant, λ _. refl)
