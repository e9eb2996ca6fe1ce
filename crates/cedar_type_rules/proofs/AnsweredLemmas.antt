-- Answers of joins of types that aren't records.
use Rattle.std.proofs.Common.{◌≡◌, ◌≢◌, ◌⊎◌, inl, inr, refl, sym, ◌∙◌, [], ◌∷◌, List, Ok, Err, IfOk, arith}
use Rattle.cedar_ast.proofs.Lists.{Contains-cons}
use Rattle.cedar_ast.proofs.PlainNames.{name_cmp-total, name_cmp-Equal}
use Rattle.cedar_type_rules.proofs.AntisymmetryLaws.{Included-same}
use Rattle.cedar_type_rules.proofs.Decisions.{IsDecided, decide_both, decide_same, decide_included, Merged, merge}
use Rattle.cedar_type_rules.proofs.JoinLemmas.{upper_is_join}
use Rattle.cedar_type_rules.proofs.WithinLemmas.{within_elements, within_sets}
use Rattle.cedar_type_rules.specs.Words.{AnyBool, Below, BoolType, False, HaveOwnBound, Included, IsHelp, IsJoinAnswer, IsLeastOwnBound, IsName, IsOwnBound, IsWellFormed, JoinAnswer, LubHelp, Permissive, PlainName, Strict, True, Ty, ValidationMode, any_entity, any_set, extension_of, long, name_cmp, never, record_of, set_of, text, truth, union_of}
use Rattle.cedar_type_rules.specs.declared.join_error.LubHelp.TheVariants as help

-- a join of two types has an answer, and what it gives is well formed
abbrev pub IsAnswered : ValidationMode → Ty → Ty → Type 0
IsAnswered mode a b = (answer : JoinAnswer) × IsJoinAnswer mode a b answer × IfOk answer IsWellFormed

-- a least own bound is an answer
pub given : (mode : ValidationMode) (a b join : Ty) → IsLeastOwnBound mode a b join → IsWellFormed join → IsAnswered mode a b
given mode a b join least formed = (Ok join, least, formed)

-- a help is an answer where there is no own bound
pub refused : (mode : ValidationMode) (a b : Ty) (it : LubHelp) → ¬ HaveOwnBound mode a b → IsHelp mode a b it → IsAnswered mode a b
refused mode a b it none fits = (Err it, (none, fits), tt)

-- the second type is an answer where it is the upper
pub second_is_upper : (mode : ValidationMode) (a b : Ty) → Below mode a b → IsWellFormed b → IsAnswered mode a b
second_is_upper mode a b below formed = given mode a b b (upper_is_join mode a b below).0 formed

-- the first type is an answer where it is the upper
pub first_is_upper : (mode : ValidationMode) (a b : Ty) → Below mode b a → IsWellFormed a → IsAnswered mode a b
first_is_upper mode a b below formed = given mode a b a (upper_is_join mode b a below).1 formed

-- what is above two different truth values is any
any_truth : (mode : ValidationMode) (first second : BoolType) (bound : Ty) → first ≢ second
    → Below mode (truth first) bound → Below mode (truth second) bound → Below mode (truth AnyBool) bound
any_truth mode first second (truth known) differ h k =
    inl (elim h [ inl e ↦ e | inr same ↦ elim k [ inl e ↦ e | inr also ↦ absurd (differ (same ∙ sym also)) ] ])
any_truth mode first second bound differ h k = elim h [ ]

-- two different truth values have any
different_truths : (mode : ValidationMode) (first second : BoolType) → first ≢ second → IsAnswered mode (truth first) (truth second)
different_truths mode first second differ =
    given mode (truth first) (truth second) (truth AnyBool)
    (((inl refl, (inl refl, tt)), tt), λ bound own. any_truth mode first second bound differ own.0.0 own.0.1.0) tt

-- truth values have an answer
pub truths_answered : (mode : ValidationMode) (first second : BoolType) → IsAnswered mode (truth first) (truth second)
truths_answered mode AnyBool second = first_is_upper mode (truth AnyBool) (truth second) (inl refl) tt
truths_answered mode True AnyBool = second_is_upper mode (truth True) (truth AnyBool) (inl refl) tt
truths_answered mode False AnyBool = second_is_upper mode (truth False) (truth AnyBool) (inl refl) tt
truths_answered mode True True = second_is_upper mode (truth True) (truth True) (inr refl) tt
truths_answered mode False False = second_is_upper mode (truth False) (truth False) (inr refl) tt
truths_answered mode True False = different_truths mode True False (λ e. absurd cc)
truths_answered mode False True = different_truths mode False True (λ e. absurd cc)

-- the shapes of types
pub data Shape : Type 0 where
  nothing truths longs texts entities sets records extensions : Shape

-- the shape of a type
abbrev pub shape : Ty → Shape
shape never = nothing
shape (truth known) = truths
shape long = longs
shape text = texts
shape any_entity = entities
shape (union_of names) = entities
shape any_set = sets
shape (set_of ty) = sets
shape (record_of fields openness) = records
shape (extension_of name) = extensions

-- what is above a type has its shape, but for `Never`
same_shape : (mode : ValidationMode) (a bound : Ty) → Below mode a bound → (shape a ≡ nothing) ⊎ (shape a ≡ shape bound)
same_shape mode never bound h = inl refl
same_shape mode (truth a) (truth b) h = inr refl
same_shape mode long long h = inr refl
same_shape mode text text h = inr refl
same_shape mode any_entity any_entity h = inr refl
same_shape mode any_entity (union_of b) h = inr refl
same_shape mode (union_of a) any_entity h = inr refl
same_shape mode (union_of a) (union_of b) h = inr refl
same_shape mode any_set any_set h = inr refl
same_shape mode any_set (set_of b) h = inr refl
same_shape mode (set_of a) any_set h = inr refl
same_shape mode (set_of a) (set_of b) h = inr refl
same_shape mode (record_of a openness) (record_of b other) h = inr refl
same_shape mode (extension_of a) (extension_of b) h = inr refl
same_shape Strict (union_of a) b h = elim h [ ]
same_shape Permissive (union_of a) b h = elim h [ ]
same_shape mode a b h = elim h [ ]

-- types of unlike shapes have no own bound
pub unlike_shapes : (mode : ValidationMode) (a b : Ty) → shape a ≢ nothing → shape b ≢ nothing → shape a ≢ shape b → ¬ HaveOwnBound mode a b
unlike_shapes mode a b first second differ own =
    elim (same_shape mode a own.0 own.1.0.0) [
      | inl left ↦ first left
      | inr e ↦ elim (same_shape mode b own.0 own.1.0.1.0) [ inl left ↦ second left | inr k ↦ differ (e ∙ sym k) ]
    ]

-- sets have an answer where their elements have
pub sets_answered : (mode : ValidationMode) (a b : Ty) → IsAnswered mode a b → IsAnswered mode (set_of a) (set_of b)
sets_answered mode a b (Ok join, least, formed) =
    given mode (set_of a) (set_of b) (set_of join)
    (((least.0.0.0, (least.0.0.1.0, tt)), within_sets a b join least.0.1), below) formed
  where
    below : (bound : Ty) → IsOwnBound mode (set_of a) (set_of b) bound → Below mode (set_of join) bound
    below any_set own = tt
    below (set_of element) own = least.1 element ((own.0.0, (own.0.1.0, tt)), within_elements a b element own.1)
    below bound own = elim own.0.0 [ ]
sets_answered mode a b (Err it, none, formed) = refused mode (set_of a) (set_of b) it no_bound none.1
  where
    no_bound : ¬ HaveOwnBound mode (set_of a) (set_of b)
    no_bound (any_set, own) = elim own.1 [ inl e ↦ absurd cc | inr e ↦ absurd cc ]
    no_bound (set_of element, own) = none.0 (element, ((own.0.0, (own.0.1.0, tt)), within_elements a b element own.1))
    no_bound (bound, own) = elim own.0.0 [ ]

-- two names are the same or not
pub decide_names : (a b : PlainName) → IsDecided (a ≡ b)
decide_names = decide_same name_cmp name_cmp-Equal

-- extension types have an answer
pub extensions_answered : (mode : ValidationMode) (a b : PlainName) → IsName b → IsAnswered mode (extension_of a) (extension_of b)
extensions_answered mode a b second =
    elim (decide_names a b) [
      | inl same ↦ second_is_upper mode (extension_of a) (extension_of b) same second
      | inr differ ↦ refused mode (extension_of a) (extension_of b) help.None (no_bound differ) refl
    ]
  where
    no_bound : a ≢ b → ¬ HaveOwnBound mode (extension_of a) (extension_of b)
    no_bound differ (extension_of name, own) = differ (own.0.0 ∙ sym own.0.1.0)
    no_bound differ (bound, own) = elim own.0.0 [ ]

-- a list that includes one that isn't empty isn't empty
includes_some : (names all : List PlainName) → names ≢ [] → Included names all → all ≢ []
includes_some [] all some within = absurd (some refl)
includes_some (name ∷ rest) all some within =
    λ e. omega (arith, ((rw e at within) name (Contains-cons name rest name (inl refl))).1)

-- unions have an answer in permissive mode
pub unions_answered : (a b : List PlainName) → IsWellFormed (union_of a) → IsWellFormed (union_of b)
    → IsAnswered Permissive (union_of a) (union_of b)
unions_answered a b first second =
    let both = merge name_cmp name_cmp-total name_cmp-Equal a b second.1 in
    given Permissive (union_of a) (union_of b) (union_of both.all) (((both.first, (both.second, tt)), tt), below both) (
      includes_some a both.all first.0 both.first,
      both.sorted_by_name,
      (λ name among. elim (both.only name among) [ inl left ↦ first.2 name left | inr right ↦ second.2 name right ]),
    )
  where
    below : (both : Merged name_cmp a b) (bound : Ty) → IsOwnBound Permissive (union_of a) (union_of b) bound
        → Below Permissive (union_of both.all) bound
    below both any_entity own = tt
    below both (union_of names) own = λ name among. elim (both.only name among) [
      | inl left ↦ own.0.0 name left
      | inr right ↦ own.0.1.0 name right
    ]
    below both bound own = elim own.0.0 [ ]

-- unions have an answer in strict mode
pub strict_unions_answered : (a b : List PlainName) → IsWellFormed (union_of a) → IsWellFormed (union_of b)
    → IsAnswered Strict (union_of a) (union_of b)
strict_unions_answered a b first second =
    elim (decide_both (decide_included decide_names a b) (decide_included decide_names b a)) [
      | inl both ↦
          second_is_upper Strict (union_of a) (union_of b)
          (Included-same name_cmp name_cmp-total a b first.1 second.1 both.0 both.1) second
      | inr differ ↦ refused Strict (union_of a) (union_of b) help.EntityType (no_bound differ) refl
    ]
  where
    no_bound : ¬ (Included a b × Included b a) → ¬ HaveOwnBound Strict (union_of a) (union_of b)
    no_bound differ (union_of names, own) =
        let same : a ≡ b = own.0.0 ∙ sym own.0.1.0 in
        differ (rw (← same) (λ name among. among), rw (← same) (λ name among. among))
    no_bound differ (bound, own) = elim own.0.0 [ ]

-- any entity and a union have none in strict mode
pub any_and_union : (names : List PlainName) → ¬ HaveOwnBound Strict any_entity (union_of names)
any_and_union names (any_entity, own) = elim own.0.1.0 [ ]
any_and_union names (bound, own) = elim own.0.0 [ ]

-- a union and any entity have none in strict mode
pub union_and_any : (names : List PlainName) → ¬ HaveOwnBound Strict (union_of names) any_entity
union_and_any names (any_entity, own) = elim own.0.0 [ ]
union_and_any names (bound, own) = elim own.0.1.0 [ ]
