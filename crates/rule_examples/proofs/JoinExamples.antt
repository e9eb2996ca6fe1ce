-- Joins of sample types.
use Rattle.std.proofs.Common.{◌≡◌, inl, inr, true, refl, sym, ap, ◌∙◌, [], ◌∷◌, List, Contains, codes}
use Rattle.cedar_ast.proofs.Inclusion.{Included-none, Included-cons, Included-head}
use Rattle.cedar_ast.proofs.Lists.{Contains-cons}
use Rattle.cedar_type_rules.proofs.ApartLemmas.{texts_differ, AreApart, AreApart-truth_long, AreApart-truth_text, AreApart-any_set_long, HasOnly, IsPair, IsPair-other, kept_below, unnamed}
use Rattle.cedar_type_rules.proofs.SubtypeLaws.{HasField-named}
use Rattle.rule_examples.specs.Words.{Below, ClosedAttributes, False, Fields, HaveOwnBound, Included, IsLeastOwnBound, IsOwnBound, OpenAttributes, Permissive, PlainName, Strict, Ty, ValidationMode, any_entity, any_set, any_set_and_long, bar_and_false, bar_and_text, bar_entity, bar_name, end, field, field_names, foo_entity, foo_name, foo_or_bar, long, long_and_long, open_bar, open_t, record_of, set_of, set_of_longs, set_of_truths, text, truth, union_of}

-- one name is included in names that have it
Included-one : (name : PlainName) (names : List PlainName) → Contains names name → Included (name ∷ []) names
Included-one name names among = Included-cons name [] names among (Included-none names)

-- two unlike entity types have their union, in permissive mode
pub entities_join-permissive : IsLeastOwnBound Permissive foo_entity bar_entity foo_or_bar
entities_join-permissive = (((foo_within, (bar_within, tt)), tt), least)
  where
    foo_within : Included (foo_name ∷ []) (bar_name ∷ foo_name ∷ [])
    foo_within =
        Included-one foo_name (bar_name ∷ foo_name ∷ [])
        (Contains-cons bar_name (foo_name ∷ []) foo_name (inr (Contains-cons foo_name [] foo_name (inl refl))))

    bar_within : Included (bar_name ∷ []) (bar_name ∷ foo_name ∷ [])
    bar_within = Included-one bar_name (bar_name ∷ foo_name ∷ []) (Contains-cons bar_name (foo_name ∷ []) bar_name (inl refl))

    least : (bound : Ty) → IsOwnBound Permissive foo_entity bar_entity bound → Below Permissive foo_or_bar bound
    least any_entity own = tt
    least (union_of names) own =
        Included-cons bar_name (foo_name ∷ []) names (Included-head bar_name [] names own.0.1.0) own.0.0
    least bound own = elim own.0.0 [ ]

-- two unlike entity types have no own bound, in strict mode
pub entities_join-strict : ¬ HaveOwnBound Strict foo_entity bar_entity
entities_join-strict (union_of names, own) =
    let same : foo_name ∷ [] ≡ bar_name ∷ [] = own.0.0 ∙ sym own.0.1.0 in
    let names_same : foo_name ≡ bar_name = cc in
    texts_differ (codes "Foo") (codes "Bar") refl (ap (λ (name : PlainName). name.base) names_same)
entities_join-strict (bound, own) = elim own.0.0 [ ]

-- no type is above truth values and whole numbers, so that their sets have no own bound
pub sets_join-apart : (mode : ValidationMode) → ¬ HaveOwnBound mode set_of_truths set_of_longs
sets_join-apart mode (any_set, own) = elim own.1 [ inl e ↦ absurd cc | inr e ↦ absurd cc ]
sets_join-apart mode (set_of element, own) = AreApart-truth_long mode _ element own.0.0 own.0.1.0
sets_join-apart mode (bound, own) = elim own.0.0 [ ]

-- the any-set and the sets of whole numbers have the any-set
pub sets_join-with_any : (mode : ValidationMode) → IsLeastOwnBound mode any_set set_of_longs any_set
sets_join-with_any mode = (((tt, (tt, tt)), inl refl), λ bound own. own.0.0)

-- two pairs that differ at the second name have the open record of the first, in permissive mode
dropped_least : (a b : Fields) (kept dropped : _) (first second : Ty) → ¬ (kept ≡ dropped)
    → IsPair a kept dropped long first → IsPair b kept dropped long second
    → Contains (field_names a) dropped → AreApart Permissive first second
    → (bound : Ty) → Below Permissive (record_of a ClosedAttributes) bound → Below Permissive (record_of b ClosedAttributes) bound
    → Below Permissive (record_of (field kept true long end) OpenAttributes) bound
dropped_least a b kept dropped first second differ pair other among apart (record_of fields OpenAttributes) h k =
    let none = unnamed Permissive a b fields dropped first second (IsPair-other a kept dropped long first differ pair)
    (IsPair-other b kept dropped long second differ other) apart h.2 k.2 in
    (tt, tt, kept_below a fields fields kept dropped long first pair (λ n r t has. has) none h.2)
dropped_least a b kept dropped first second differ pair other among apart (record_of fields ClosedAttributes) h k =
    let none = unnamed Permissive a b fields dropped first second (IsPair-other a kept dropped long first differ pair)
    (IsPair-other b kept dropped long second differ other) apart h.2 k.2 in
    let found = HasField-named fields dropped (h.1 dropped among) in
    absurd (none found.0 found.1 found.2)
dropped_least a b kept dropped first second differ pair other among apart bound h k = elim h [ ]

-- a bound of two records, in strict mode, has every name of theirs, and so none where the types at
-- a name are apart
strict_apart : (a b : Fields) (dropped : _) (first second : Ty) → HasOnly a dropped first → HasOnly b dropped second
    → Contains (field_names a) dropped → AreApart Strict first second
    → (bound : Ty) → Below Strict (record_of a ClosedAttributes) bound → ¬ Below Strict (record_of b ClosedAttributes) bound
strict_apart a b dropped first second one other among apart (record_of fields openness) h k =
    let found = HasField-named fields dropped (h.1 dropped among) in
    unnamed Strict a b fields dropped first second one other apart h.2 k.2 found.0 found.1 found.2
strict_apart a b dropped first second one other among apart bound h k = elim h [ ]

-- the attributes `{bar: Long, foo: T}`
abbrev bar_and : Ty → Fields
bar_and ty = field (codes "bar") true long (field (codes "foo") true ty end)

-- the attributes `{s: T, t: Long}`
abbrev and_t : Ty → Fields
and_t ty = field (codes "s") true ty (field (codes "t") true long end)

-- what `{bar: Long, foo: False}` and `{bar: Long, foo: String}` have
bar_pair : (ty : Ty) → IsPair (bar_and ty) (codes "bar") (codes "foo") long ty
bar_pair ty name required of (inl same) = inl (same.0, sym same.1, sym same.2)
bar_pair ty name required of (inr (inl same)) = inr (same.0, sym same.2)
bar_pair ty name required of (inr (inr none)) = elim none [ ]

-- what `{s: any-set, t: Long}` and `{s: Long, t: Long}` have
t_pair : (ty : Ty) → IsPair (and_t ty) (codes "t") (codes "s") long ty
t_pair ty name required of (inl same) = inr (same.0, sym same.2)
t_pair ty name required of (inr (inl same)) = inl (same.0, sym same.1, sym same.2)
t_pair ty name required of (inr (inr none)) = elim none [ ]

-- `bar` and `foo` differ
bar_differs : ¬ (codes "bar" ≡ codes "foo")
bar_differs = texts_differ (codes "bar") (codes "foo") refl

-- `foo` is a name of `{bar: Long, foo: False}`
foo_among : Contains (codes "bar" ∷ codes "foo" ∷ []) (codes "foo")
foo_among = Contains-cons (codes "bar") (codes "foo" ∷ []) (codes "foo") (inr (Contains-cons (codes "foo") [] (codes "foo") (inl refl)))

-- the records `{bar: Long, foo: False}` and `{bar: Long, foo: String}` have the open `{bar: Long}`,
-- in permissive mode
pub records_join-permissive : IsLeastOwnBound Permissive bar_and_false bar_and_text open_bar
records_join-permissive = (((below_bar (truth False), (below_bar text, tt)), (tt, tt)), least)
  where
    below_bar : (ty : Ty) → Below Permissive (record_of (bar_and ty) ClosedAttributes) open_bar
    below_bar ty = (tt, tt, ((true, long, inl (refl, refl, refl), (λ needed. needed), tt), tt))

    least : (bound : Ty) → IsOwnBound Permissive bar_and_false bar_and_text bound → Below Permissive open_bar bound
    least bound own =
        dropped_least _ _ (codes "bar") (codes "foo") (truth False) text bar_differs (bar_pair (truth False)) (bar_pair text) foo_among
        (AreApart-truth_text Permissive False) bound own.0.0 own.0.1.0

-- they have no own bound in strict mode
pub records_join-strict : ¬ HaveOwnBound Strict bar_and_false bar_and_text
records_join-strict (bound, own) =
    strict_apart _ _ (codes "foo") (truth False) text (only (truth False)) (only text) foo_among (AreApart-truth_text Strict False)
    bound own.0.0 own.0.1.0
  where
    only : (ty : Ty) → HasOnly (bar_and ty) (codes "foo") ty
    only ty = IsPair-other (bar_and ty) (codes "bar") (codes "foo") long ty bar_differs (bar_pair ty)

-- the records `{s: any-set, t: Long}` and `{s: Long, t: Long}` have the open `{t: Long}`, in
-- permissive mode
pub records_join-dropped : IsLeastOwnBound Permissive any_set_and_long long_and_long open_t
records_join-dropped = (((below_t any_set, (below_t long, tt)), (tt, tt)), least)
  where
    below_t : (ty : Ty) → Below Permissive (record_of (and_t ty) ClosedAttributes) open_t
    below_t ty = (tt, tt, ((true, long, inr (inl (refl, refl, refl)), (λ needed. needed), tt), tt))

    least : (bound : Ty) → IsOwnBound Permissive any_set_and_long long_and_long bound → Below Permissive open_t bound
    least bound own =
        dropped_least _ _ (codes "t") (codes "s") any_set long (texts_differ (codes "t") (codes "s") refl) (t_pair any_set) (t_pair long)
        (Contains-cons (codes "s") (codes "t" ∷ []) (codes "s") (inl refl))
        (AreApart-any_set_long Permissive) bound own.0.0 own.0.1.0
