-- Answers of membership, brought together one after another.
use Rattle.std.proofs.Common.{◌≡◌, ◌↔◌, ◌⊎◌, inl, inr, Bool, true, false, Ok, Err, refl, sym, IfErr, Option, Some, None, IsSome}
use Rattle.std.specs.Bool.{Decides}
use Rattle.cedar_types.specs.Words.{Answer, ArgumentsFit, ExtensionFunction, ExtensionFunctionLookupError, Extensions, Gives, IsMembership, IsUnknown, MayGive, PlainName, Trees, argument_types, core_extension, function_named, plain_name, result_type}

-- a test decides a part in which no call stands
pub IsMembership-test : (b : Bool) (H : Type 0) (M : PlainName → Type 0) → Decides b H → IsMembership (Ok b) H H M
IsMembership-test true H M decides = record {
  yes = (λ _. decides.0 refl, λ _. refl);
  no = (λ e. absurd cc, λ never. absurd (never (decides.0 refl)));
  fault = tt;
}
IsMembership-test false H M decides = record {
  yes = (λ e. absurd cc, λ h. absurd (let e = decides.1 h in cc));
  no = (λ _ h. (let e = decides.1 h in cc), λ _. refl);
  fault = tt;
}

-- what two answers give together: yes where both are yes, no where one is no, and else the fault of
-- one of them
pub record IsBoth (first second both : Answer) : Type 0 where
  pub yes : (both ≡ Ok true) ↔ ((first ≡ Ok true) × (second ≡ Ok true))
  pub no : (both ≡ Ok false) ↔ ((first ≡ Ok false) ⊎ (second ≡ Ok false))
  pub fault : IfErr both (λ error. (first ≡ Err error) ⊎ (second ≡ Err error))

-- an answer is right so far: what is left decides about the whole where the answer isn't no, and
-- the fault is one of the whole
pub record IsMembershipSoFar (so_far : Answer) (H U : Type 0) (M : PlainName → Type 0) (Whole MayWhole : Type 0)
    (Meeting : PlainName → Type 0) : Type 0 where
  pub yes : so_far ≡ Ok true → H → Whole
  pub parts : Whole → (so_far ≡ Ok true) × H
  pub no : so_far ≡ Ok false → ¬ MayWhole
  pub may : MayWhole → U
  pub undecided : ¬ (so_far ≡ Ok false) → ¬ MayWhole → ¬ U
  pub fault : IfErr so_far (λ error. Meeting (plain_name error.name.now))
  pub meets : (unknown : PlainName) → M unknown → Meeting unknown

-- at first all is left
pub IsMembershipSoFar-none : (H U : Type 0) (M : PlainName → Type 0) → IsMembershipSoFar (Ok true) H U M H U M
IsMembershipSoFar-none H U M = record {
  yes = λ _ h. h;
  parts = λ h. (refl, h);
  no = λ e. absurd cc;
  may = λ u. u;
  undecided = λ _ never. never;
  fault = tt;
  meets = λ unknown m. m;
}

-- what holds of the one error of an answer
IfErr-of : (answer : Answer) (P : ExtensionFunctionLookupError → Type 0) (error : ExtensionFunctionLookupError)
    → answer ≡ Err error → IfErr answer P → P error
IfErr-of answer P error is holds = rw is at holds

-- an answer that holds in a weaker form
IfErr-weaker : (answer : Answer) (P Q : ExtensionFunctionLookupError → Type 0)
    → ((error : ExtensionFunctionLookupError) → P error → Q error) → IfErr answer P → IfErr answer Q
IfErr-weaker (Ok b) P Q weaker holds = tt
IfErr-weaker (Err error) P Q weaker holds = weaker error holds

-- one more part is answered
pub IsMembershipSoFar-more : (so_far b next : Answer) (H K U V : Type 0) (M N : PlainName → Type 0)
    (Whole MayWhole : Type 0) (Meeting : PlainName → Type 0) → IsBoth so_far b next
    → IsMembershipSoFar so_far (H × K) (U × V) (λ f. M f ⊎ N f) Whole MayWhole Meeting → IsMembership b H U M
    → IsMembershipSoFar next K V N Whole MayWhole Meeting
IsMembershipSoFar-more so_far b next H K U V M N Whole MayWhole Meeting both before right = record {
  yes = λ e k. (let parts = both.yes.0 e in before.yes parts.0 (right.yes.0 parts.1, k));
  parts = λ whole. (let parts = before.parts whole in (both.yes.1 (parts.0, right.yes.1 parts.1.0), parts.1.1));
  no = λ e may. elim (both.no.0 e) [ inl first ↦ before.no first may | inr second ↦ right.no.0 second (before.may may).0 ];
  may = λ may. (before.may may).1;
  undecided = λ open_still never v. open_still
      (both.no.1 (inr (right.no.1 (λ u. before.undecided (λ first. open_still (both.no.1 (inl first))) never (u, v)))));
  fault = IfErr-weaker next _ _ (λ error either. elim either [
    | inl first ↦ IfErr-of so_far _ error first before.fault
    | inr second ↦ before.meets (plain_name error.name.now) (inl (IfErr-of b _ error second right.fault))
  ]) both.fault;
  meets = λ unknown n. before.meets unknown (inr n);
}

-- at last nothing is left
pub IsMembershipSoFar-all : (so_far : Answer) (M : PlainName → Type 0) (Whole MayWhole : Type 0) (Meeting : PlainName
    → Type 0) → IsMembershipSoFar so_far (Unit {0}) (Unit {0}) M Whole MayWhole Meeting → IsMembership so_far Whole MayWhole Meeting
IsMembershipSoFar-all so_far M Whole MayWhole Meeting before = record {
  yes = (λ e. before.yes e tt, λ whole. (before.parts whole).0);
  no = (before.no, λ never. decided so_far (λ open_still. before.undecided open_still never tt));
  fault = before.fault;
}
  where
    decided : (answer : Answer) → ¬ ¬ (answer ≡ Ok false) → answer ≡ Ok false
    decided (Ok false) open_still = refl
    decided _ open_still = absurd (open_still (λ e. cc))

-- where a part answers no, the answer of the whole is no
pub IsMembershipSoFar-stops : (so_far : Answer) (H U : Type 0) (M : PlainName → Type 0) (Whole MayWhole : Type 0)
    (Meeting : PlainName → Type 0) → so_far ≡ Ok false → IsMembershipSoFar so_far H U M Whole MayWhole Meeting
    → IsMembership (Ok false) Whole MayWhole Meeting
IsMembershipSoFar-stops so_far H U M Whole MayWhole Meeting is before = record {
  yes = (λ e. absurd cc, λ whole. absurd (let all = (before.parts whole).0 in cc));
  no = (λ _. before.no is, λ _. refl);
  fault = tt;
}

-- a known call: its test decides whether it gives the value, and it has a function
pub IsMembership-known : (extensions : Extensions) (name : PlainName) (args : Trees) (ty : PlainName)
    (function : ExtensionFunction) (b : Bool) → function_named extensions name ≡ Some function
    → Decides b ((result_type function ≡ Some (core_extension ty)) × ArgumentsFit extensions args (argument_types function))
    → IsMembership (Ok b) (Gives extensions name args ty) (MayGive extensions name args ty)
    (λ unknown. (name ≡ unknown) × IsUnknown extensions unknown)
IsMembership-known extensions name args ty function b known decides =
    let given : Decides b (Gives extensions name args ty) = (
      λ e. (let both = decides.0 e in (function, known, both.0, both.1)),
      λ gives. (let same : gives.0 ≡ function = (let found = gives.1 in cc) in
          decides.1 (rw (← same) (gives.2, gives.3))),
    ) in
    let may : Decides b (MayGive extensions name args ty) = (
      λ e. inl (given.0 e),
      λ either. elim either [
        | inl left ↦ given.1 left
        | inr unknown ↦ absurd (let found : function_named extensions name ≡ None = unknown in cc)
      ],
    ) in
    let right = IsMembership-test b (Gives extensions name args ty) (λ unknown. (name ≡ unknown) × IsUnknown extensions unknown) given in
    let right_may = IsMembership-test b (MayGive extensions name args ty) (λ unknown. (name ≡ unknown)
    × IsUnknown extensions unknown) may in
    record { yes = right.yes; no = right_may.no; fault = tt }

-- an unknown call meets its function, and may give anything
pub IsMembership-unknown : (extensions : Extensions) (name : PlainName) (args : Trees) (ty : PlainName)
    (answer : Answer) (error : ExtensionFunctionLookupError) → answer ≡ Err error → plain_name error.name.now ≡ name
    → function_named extensions name ≡ None → IsMembership answer (Gives extensions name args ty)
    (MayGive extensions name args ty) (λ unknown. (name ≡ unknown) × IsUnknown extensions unknown)
IsMembership-unknown extensions name args ty answer error is same none =
    rw is (record {
      yes = (λ e. absurd cc, λ gives. absurd (let found = gives.1 in cc));
      no = (λ e. absurd cc, λ never. absurd (never (inr none)));
      fault = (sym same, rw (← same) at none);
    })

-- where some value would be an error, there is none
pub none_from_some : {A : Type 0} (found : Option A) → (IsSome found → false ≡ true) → found ≡ None
none_from_some None wrong = refl
none_from_some (Some x) wrong = absurd (let e = wrong refl in cc)
