use Rattle.std.proofs.Common.{◌≡◌, ◌<◌, ◌+◌, ◌∷◌, ◌++◌, [], map, take, length, IsTrue, Contains, rules, sym, ap, ◌∙◌}
use Rattle.std.proofs.lemmas.List.{take_all, take_more}
use Rattle.std.proofs.lemmas.List.Elements.{All-contains, All-push}
use Rattle.cedar_ast.proofs.FittingNames.{TypeNamesFit-parts}
use Rattle.cedar_ast.proofs.Lists.{Contains-at, Twice-at, distinct_more, repeated, same_at}
use Rattle.cedar_ast.proofs.extension.Extensions.try_new.Goals as goal
use Rattle.cedar_ast.specs.Words.{IsUnqualified, Name, PlainName, plain_name, primitive_words}

-- the name has no path, and isn't that of a core type
abbrev Fit : Name → Type 0
Fit name = IsUnqualified (plain_name name) × ¬ Contains primitive_words (plain_name name).base

pub returns-then-not-is_unqualified-clause-fault : goal.returns-then-not-is_unqualified-clause-fault
returns-then-not-is_unqualified-clause-fault c =
    let below : c.loop-at.at < length c.loop-at.types.items = search rules in
    let same : c.swap_remove.result ≡ c.index-name.result.now =
    same_at c.loop-at.types.items c.loop-at.at _ _ below c.swap_remove.ensures.value c.index-name.ensures in
    let among = rw c.loop-at.invariant.0 at (Contains-at plain_name c.loop-at.types.items c.loop-at.at c.swap_remove.result below c.swap_remove.ensures.value) in (
      among,
      λ none.
          let told : IsTrue c.is_unqualified.result = c.is_unqualified.ensures.1 (rw same at none) in
          let test = c.if-not-is_unqualified.true in
          absurd cc,
    )

pub returns-then-not-is_unqualified-clause-unfit : goal.returns-then-not-is_unqualified-clause-unfit
returns-then-not-is_unqualified-clause-unfit c fits =
    let below : c.loop-at.at < length c.loop-at.types.items = search rules in
    let among = rw c.loop-at.invariant.0 at (Contains-at plain_name c.loop-at.types.items c.loop-at.at c.index-name.result.now below c.index-name.ensures) in
    let told : IsTrue c.is_unqualified.result = c.is_unqualified.ensures.1 (All-contains IsUnqualified _ _ fits.unqualified among) in
    let test = c.if-not-is_unqualified.true in
    absurd cc

pub returns-then-is_core_type_word-clause-fault : goal.returns-then-is_core_type_word-clause-fault
returns-then-is_core_type_word-clause-fault c =
    let below : c.loop-at.at < length c.loop-at.types.items = search rules in
    let same : c.index-name.result.now ≡ c.swap_remove-then-is_core_type_word.result =
    same_at c.loop-at.types.items c.loop-at.at _ _ below c.index-name.ensures c.swap_remove-then-is_core_type_word.ensures.value in
    let among = rw c.loop-at.invariant.0 at (Contains-at plain_name c.loop-at.types.items c.loop-at.at c.swap_remove-then-is_core_type_word.result below
    c.swap_remove-then-is_core_type_word.ensures.value) in
    let word : Contains primitive_words (plain_name c.index-name.result.now).base =
    rw (c.as_str.ensures.text ∙ c.basename.ensures) at (c.is_core_type_word.ensures.0 c.if-is_core_type_word.true) in
    (among, rw same at word)

pub returns-then-is_core_type_word-clause-unfit : goal.returns-then-is_core_type_word-clause-unfit
returns-then-is_core_type_word-clause-unfit c fits =
    let below : c.loop-at.at < length c.loop-at.types.items = search rules in
    let among = rw c.loop-at.invariant.0 at (Contains-at plain_name c.loop-at.types.items c.loop-at.at c.index-name.result.now below c.index-name.ensures) in
    let word : Contains primitive_words (plain_name c.index-name.result.now).base =
    rw (c.as_str.ensures.text ∙ c.basename.ensures) at (c.is_core_type_word.ensures.0 c.if-is_core_type_word.true) in
    All-contains (λ (name : PlainName). ¬ Contains primitive_words name.base) _ _ fits.free among word

pub returns-then-has_name-clause-fault : goal.returns-then-has_name-clause-fault
returns-then-has_name-clause-fault c =
    let below : c.loop-at.at < length c.loop-at.types.items = search rules in
    let same : c.index-name.result.now ≡ c.swap_remove-then-has_name.result =
    same_at c.loop-at.types.items c.loop-at.at _ _ below c.index-name.ensures c.swap_remove-then-has_name.ensures.value in
    let there = rw c.deref.ensures.value at (c.has_name.ensures.0 c.if-has_name.true) in
    let twice = Twice-at plain_name c.loop-at.types.items c.loop-at.at c.index-name.result.now below c.index-name.ensures there in
    rw (c.loop-at.invariant.0, same) at twice

pub returns-then-has_name-clause-unfit : goal.returns-then-has_name-clause-unfit
returns-then-has_name-clause-unfit c fits =
    let below : c.loop-at.at < length c.loop-at.types.items = search rules in
    let there = rw c.deref.ensures.value at (c.has_name.ensures.0 c.if-has_name.true) in
    repeated plain_name c.loop-at.types.items c.loop-at.at c.index-name.result.now below c.index-name.ensures there
    (rw c.loop-at.invariant.0 fits.distinct)

pub loop-at-preserved : goal.loop-at-preserved
loop-at-preserved c =
    let below : c.loop-at.at < length c.loop-at.types.items = search rules in
    let other : ¬ Contains primitive_words (plain_name c.index-name.result.now).base = λ word.
    let told : IsTrue c.is_core_type_word.result =
    c.is_core_type_word.ensures.1 (rw (c.as_str.ensures.text ∙ c.basename.ensures) word) in
    let test = c.if-is_core_type_word.false in
    absurd cc in
    let fresh : ¬ Contains (map plain_name (take c.loop-at.at c.loop-at.types.items)) (plain_name c.index-name.result.now) = λ there.
    let told : IsTrue c.has_name.result = c.has_name.ensures.1
    (rw c.deref.ensures.value there) in
    let test = c.if-has_name.false in
    absurd cc in
    let more : take (c.loop-at.at + 1) c.loop-at.types.items ≡ take c.loop-at.at c.loop-at.types.items ++ c.index-name.result.now ∷ [] =
    take_more c.loop-at.types.items c.loop-at.at c.index-name.result.now below
    ∙ ap (λ name. take c.loop-at.at c.loop-at.types.items ++ name ∷ []) (sym c.index-name.ensures) in (
      c.loop-at.invariant.0,
      rw more (All-push Fit _ _ c.loop-at.invariant.1 (c.is_unqualified.ensures.0 c.if-not-is_unqualified.false, other)),
      distinct_more plain_name c.loop-at.types.items c.loop-at.at c.index-name.result.now below c.index-name.ensures fresh c.loop-at.invariant.2,
    )

pub returns-clause-types : goal.returns-clause-types
returns-clause-types c = ap (map plain_name) c.loop-at.invariant.0

pub returns-clause-fit : goal.returns-clause-fit
returns-clause-fit c =
    let whole : take c.loop-at.at c.loop-at.types.items ≡ c.args.types.items =
    take_all c.loop-at.at c.loop-at.types.items (search rules) ∙ c.loop-at.invariant.0 in
    (TypeNamesFit-parts c.args.types.items).0 (rw (← whole) (c.loop-at.invariant.1, c.loop-at.invariant.2))
