-- Values whose uids are exchanged for such as exist.
use Rattle.std.proofs.Common.{◌≡◌, ◌↔◌, inl, inr, refl, sym, subst, ◌∙◌, ℕ, List, Option, Some, None, IfSome, arith}
use Rattle.std.specs.Option.{option_map}
use Rattle.cedar_counterexample.specs.Words.{AreNoLonger, EachNamesOnly, Entries, EntriesNameOnly, Extensions, Has, HasUidsIn, IsBetweenAnswer, IsCounterexample, IsExchanged, IsLostUid, IsNaming, IsOutsideAt, IsOutsideBetween, IsValue, KeepsIds, KeepsUids, MentionsEntity, NamesOnly, NamesSome, PlainBetween, PlainNaming, PlainStep, PlainUid, SomeEntryNamesSome, SomeNamesSome, StandsFor, Tree, Trees, Ty, ValuesIncluded, ValuesKept, call_value, entry, map_value, no_entry, no_tree, number_value, set_value, text_value, tree, truth_value, uid_value}
use Rattle.cedar_entities.proofs.ExchangeLemmas.{has_exchanged, moves_within, only_exchanged, real_exchanged, some_exchanged, turned, uid_mentioned}
use Rattle.cedar_entities.proofs.KeptLemmas.{all_kept, names_kept}
use Rattle.cedar_type_rules.proofs.ValueInclusion.{HasBy-included}
use Rattle.cedar_type_rules.specs.Words.{Gives, IncludedByParts}

mutual
  -- where only such uids are named of which a fact holds, it holds of one that is named
  some_of_only : (Is : PlainUid → Type 0) (uid : PlainUid) (value : Tree) → NamesSome (λ it. it ≡ uid) value → NamesOnly Is value → Is uid
  some_of_only Is uid (truth_value value) some only = elim some [ ]
  some_of_only Is uid (number_value value) some only = elim some [ ]
  some_of_only Is uid (text_value value) some only = elim some [ ]
  some_of_only Is uid (call_value function args) some only = elim some [ ]
  some_of_only Is uid (uid_value it) some only = subst Is some only
  some_of_only Is uid (set_value values) some only = some_of_each Is uid values some only
  some_of_only Is uid (map_value values) some only = some_of_entries Is uid values some only

  some_of_each : (Is : PlainUid → Type 0) (uid : PlainUid) (values : Trees) → SomeNamesSome (λ it. it ≡ uid) values → EachNamesOnly Is values → Is uid
  some_of_each Is uid no_tree some only = elim some [ ]
  some_of_each Is uid (tree first rest) (inl here) only = some_of_only Is uid first here only.0
  some_of_each Is uid (tree first rest) (inr later) only = some_of_each Is uid rest later only.1

  some_of_entries : (Is : PlainUid → Type 0) (uid : PlainUid) (values : Entries) → SomeEntryNamesSome (λ it. it ≡ uid) values
      → EntriesNameOnly Is values → Is uid
  some_of_entries Is uid no_entry some only = elim some [ ]
  some_of_entries Is uid (entry name value rest) (inl here) only = some_of_only Is uid value here only.0
  some_of_entries Is uid (entry name value rest) (inr later) only = some_of_entries Is uid rest later only.1

module _ (extensions : Extensions) (Old New : PlainUid → Type 0) (longest : ℕ) (value other : Tree)
    (is : IsExchanged (StandsFor Old longest) value other) where
  -- the other value is real
  pub existing_real : IsValue value → IsValue other
  existing_real real = real_exchanged (StandsFor Old longest) value other (λ uid it stands. stands.real) is real

  -- it names what exists
  pub existing_only : NamesOnly Old other
  existing_only = only_exchanged (StandsFor Old longest) Old value other (λ uid it stands. stands.holds) is

  -- it has the type if of each entity type in it a uid exists
  pub existing_has : (ty : Ty) → HasUidsIn Old ty → Has extensions value ty → Has extensions other ty
  existing_has ty known has =
      has_exchanged (StandsFor Old longest) (Gives extensions) ty value other
      (moves_within (StandsFor Old longest) ty (λ uid it stands mentions. stands.same_type (uid_mentioned Old ty uid.ty known mentions)) ty
      (λ name mentions. mentions)) is has

  -- it hasn't a type that the value hasn't, where the names in it aren't longer than is given
  pub existing_lacks : (ty : Ty) → AreNoLonger (MentionsEntity ty) longest → ¬ Has extensions value ty → ¬ Has extensions other ty
  existing_lacks ty short lacks has =
      let Back : PlainUid → PlainUid → Type 0 = λ it uid. StandsFor Old longest uid it in
      lacks (has_exchanged Back (Gives extensions) ty other value
      (moves_within Back ty (λ it uid stands mentions. elim stands.apart [
        | inl same ↦ sym same
        | inr longer ↦ absurd (let less = short it.ty mentions in omega (arith, less, longer))
      ]) ty (λ name mentions. mentions))
      (turned (StandsFor Old longest) Back value other (λ uid it stands. stands) is) has)

  -- it names a uid that exists where the value does
  pub existing_names : (uid : PlainUid) → Old uid → NamesSome (λ it. it ≡ uid) value → NamesSome (λ it. it ≡ uid) other
  existing_names uid exists some =
      some_exchanged (StandsFor Old longest) (λ it. it ≡ uid) value other
      (λ from it stands same. stands.itself (subst Old (sym same) exists) ∙ same) is some

  -- a value that separates two types is exchanged for one that does
  pub separating_between : (lower upper : Ty) (steps : List PlainStep) → HasUidsIn Old lower → AreNoLonger (MentionsEntity upper) longest
      → IsCounterexample extensions lower upper value → IsOutsideAt extensions steps lower upper
      → IsOutsideBetween extensions Old New lower upper (record { value = other; steps = steps; lost = None })
  separating_between lower upper steps known short separates parts = record {
    real = existing_real separates.0.0;
    has = existing_has lower known separates.0.1;
    exists = existing_only;
    lacks = λ both. existing_lacks upper short separates.1 both.0;
    apart = parts;
  }

  -- one that names a uid which isn't kept is exchanged for one that does
  pub lost_between : (lower upper : Ty) (it : PlainNaming) → it.found.value ≡ value → HasUidsIn Old lower → ValuesIncluded extensions lower upper
      → IsNaming extensions Old New lower it
      → IsOutsideBetween extensions Old New lower upper (record { value = other; steps = it.found.steps; lost = Some it.uid })
  lost_between lower upper it same known included naming =
      let real = subst IsValue same naming.sample.0 in
      let has = subst (λ v. Has extensions v lower) same naming.sample.1 in
      let names = existing_names it.uid naming.lost.0 (subst (NamesSome (λ uid. uid ≡ it.uid)) same naming.names) in
      record {
        real = existing_real real;
        has = existing_has lower known has;
        exists = existing_only;
        lacks = λ both. naming.lost.1 (some_of_only New it.uid other names both.1);
        apart = (naming.lost, naming.leads, included);
      }

-- where the values are included and the ids are kept, each value is kept
pub kept_between : (extensions : Extensions) (Old New : PlainUid → Type 0) (lower upper : Ty) → ValuesIncluded extensions lower upper
    → KeepsIds Old New lower → ValuesKept extensions Old New lower upper
kept_between extensions Old New lower upper included ids value real has old =
    (included value real has, names_kept Old New (Gives extensions) value lower ids real has old)

-- so it is where all uids are kept
pub kept_all : (extensions : Extensions) (Old New : PlainUid → Type 0) (lower upper : Ty) → ValuesIncluded extensions lower upper
    → KeepsUids Old New → ValuesKept extensions Old New lower upper
kept_all extensions Old New lower upper included keeps value real has old = (included value real has, all_kept Old New value keeps real old)

module _ {T : Type 0} (plain : T → PlainBetween) (extensions : Extensions) (Old New : PlainUid → Type 0) (lower upper : Ty) where
  -- nothing is found exactly where each value is kept
  pub between_none : (found : Option T) → IsBetweenAnswer extensions Old New lower upper (option_map plain found)
      → (found ≡ None) ↔ ValuesKept extensions Old New lower upper
  between_none None answer = (λ none. answer, λ kept. refl)
  between_none (Some it) answer =
      (λ wrong. absurd cc, λ kept. absurd (answer.lacks (kept (plain it).value answer.real answer.has answer.exists)))

  -- what is found is none of the other type
  pub between_some : (found : Option T) → IsBetweenAnswer extensions Old New lower upper (option_map plain found)
      → IfSome found (λ it. IsOutsideBetween extensions Old New lower upper (plain it))
  between_some None answer = tt
  between_some (Some it) answer = answer

-- what the parts say is included
pub parts_included : (extensions : Extensions) (lower upper : Ty) → IncludedByParts lower upper → ValuesIncluded extensions lower upper
parts_included extensions lower upper parts value real has = HasBy-included (Gives extensions) value lower upper has parts
