-- Tokens that are written one after another, and what is free of flaws.
use Rattle.std.proofs.Common.{◌≡◌, List, [], ◌∷◌, ◌++◌, Err, IfErr, MatchResult, Ok, OnOk, Result, Some, None, ap, refl, sym, subst, ◌∙◌, append_assoc}
use Rattle.std.proofs.lemmas.List.Elements.{Contains-append_left, Contains-append_right}
use Rattle.cedar_ast.proofs.Basics.{OnOk-map}
use Rattle.cedar_json_writer.specs.Words.{AddsField, AddsFields, AddsMembers, AddsValue, Flaw, IsChecked, IsFlawOf, IsFree, Text, WriteFault, flaw_of}
use Rattle.cedar_json_writer.specs.declared.fault.WriteFault.TheVariants as fault
use Rattle.json.specs.Json.{Json, array, object, Items, no_items, item, Members, no_members, member}
use Rattle.json.specs.Token.{Token, begin_array, begin_object, end_array, end_object, key}
use Rattle.json.specs.Tree.{items_tokens, json_tokens, members_tokens}

-- what has no flaw before a step that only memory may stop has none behind it
pub flawless_checked : {A : Type 0} (flaws : List Flaw) (r : Result A WriteFault) → IfErr r (λ f. f ≡ fault.Memory) → flaws ≡ []
    → MatchResult r (λ _. flaws ≡ []) (IsFlawOf flaws)
flawless_checked flaws (Ok a) is none = none
flawless_checked flaws (Err f) is none = subst (IsFlawOf flaws) (sym is) tt

-- what is checked has no flaw, or the refusal names one
pub flawless_as : {A : Type 0} (flaws : List Flaw) (Sound : Type 0) (r : Result A WriteFault) → IsChecked r flaws Sound
    → MatchResult r (λ _. flaws ≡ []) (IsFlawOf flaws)
flawless_as flaws Sound (Ok a) is = is.flawless
flawless_as flaws Sound (Err f) is = is

-- what is free before a step that only memory may stop is checked behind it
pub checked : {A : Type 0} {flaws : List Flaw} {Sound : Type 0} (r : Result A WriteFault) → IfErr r (λ f. f ≡ fault.Memory) → IsFree flaws Sound
    → IsChecked r flaws Sound
checked (Ok a) is free = free
checked {A} {flaws} (Err f) is free = subst (IsFlawOf flaws) (sym is) tt

-- what is checked of a part is checked of what has the part's flaws and is sound where it is
pub checked_as : {A : Type 0} {one all : List Flaw} {SoundOne Sound : Type 0} (r : Result A WriteFault) → IsChecked r one SoundOne
    → (IsFree one SoundOne → IsFree all Sound) → ((f : WriteFault) → IsFlawOf one f → IsFlawOf all f) → IsChecked r all Sound
checked_as (Ok a) is free flaw = free is
checked_as (Err f) is free flaw = flaw f is

-- a flaw of the first of two lists is one of both
pub flaw_left : (xs ys : List Flaw) (f : WriteFault) → IsFlawOf xs f → IsFlawOf (xs ++ ys) f
flaw_left xs ys (fault.Unwritable what) is = Contains-append_left xs ys (flaw_of what) is
flaw_left xs ys fault.Memory is = tt

-- and so is one of the second
pub flaw_right : (xs ys : List Flaw) (f : WriteFault) → IsFlawOf ys f → IsFlawOf (xs ++ ys) f
flaw_right xs ys (fault.Unwritable what) is = Contains-append_right xs ys (flaw_of what) is
flaw_right xs ys fault.Memory is = tt

-- two lists that are empty are so together
pub none_both : (xs ys : List Flaw) → xs ≡ [] → ys ≡ [] → xs ++ ys ≡ []
none_both xs ys first second = ap (λ zs. zs ++ ys) first ∙ second

-- a key with a value is a field
pub field_added : (old keyed new : List Token) (name : Text) (j : Json) → keyed ≡ old ++ key name ∷ [] → AddsValue keyed new j
    → AddsField old new name (Some j)
field_added old keyed new name j named added rest =
    ap (λ l. l ++ members_tokens rest) (added ∙ ap (λ l. l ++ json_tokens j) named)
    ∙ append_assoc (old ++ key name ∷ []) (json_tokens j) (members_tokens rest)
    ∙ append_assoc old (key name ∷ []) (json_tokens j ++ members_tokens rest)

-- so it is where the value is the last that is written
pub field_by : {A E : Type 0} (r : Result A E) (old keyed new : List Token) (name : Text) (j : Json) → keyed ≡ old ++ key name ∷ []
    → OnOk r (AddsValue keyed new j) → OnOk r (AddsField old new name (Some j))
field_by r old keyed new name j named added = OnOk-map r added (λ is. field_added old keyed new name j named is)

-- nothing is a field that is left out
pub field_absent : (old new : List Token) (name : Text) → new ≡ old → AddsField old new name None
field_absent old new name same rest = ap (λ l. l ++ members_tokens rest) same

-- fields after fields
pub fields_after : (old middle new : List Token) (first second : Members → Members) → AddsFields old middle first → AddsFields middle new second
    → AddsFields old new (λ rest. first (second rest))
fields_after old middle new first second one two rest = two rest ∙ one (second rest)

-- fields behind a bracket, and the last members, are an object
pub object_closed : (old opened inside new : List Token) (fields : Members → Members) (last : Members) → opened ≡ old ++ begin_object ∷ []
    → AddsFields opened inside fields → AddsMembers inside new last → AddsValue old new (object (fields last))
object_closed old opened inside new fields last begun added ended =
    ended ∙ added last ∙ ap (λ l. l ++ members_tokens (fields last)) begun
    ∙ append_assoc old (begin_object ∷ []) (members_tokens (fields last))

-- fields between brackets are an object
pub object_added : (old opened inside new : List Token) (fields : Members → Members) → opened ≡ old ++ begin_object ∷ []
    → AddsFields opened inside fields → new ≡ inside ++ end_object ∷ [] → AddsValue old new (object (fields no_members))
object_added old opened inside new fields begun added ended = object_closed old opened inside new fields no_members begun added ended

-- an object that is written behind its key is a field
pub object_by : (old opened new : List Token) (name : Text) (j : Json) → opened ≡ old ++ key name ∷ begin_object ∷ []
    → (opened ≡ (old ++ key name ∷ []) ++ begin_object ∷ [] → AddsValue (old ++ key name ∷ []) new j) → AddsField old new name (Some j)
object_by old opened new name j begun added =
    field_added old (old ++ key name ∷ []) new name j refl (added (begun ∙ sym (append_assoc old (key name ∷ []) (begin_object ∷ []))))

-- a list whose items are written each under a text: its members, what can't be written of it, and
-- what makes it sound
pub record MembersShape (E : Type 0) : Type 1 where
  pub members : List E → Members
  pub flaws : List E → List Flaw
  pub Sound : List E → Type 0
  pub text : E → Text
  pub document : E → Json
  pub flaws_of : E → List Flaw
  pub SoundOne : E → Type 0
  pub no_more : members [] ≡ no_members
  pub no_flaws : flaws [] ≡ []
  pub none_sound : Sound []
  pub one_more : (e : E) (rest : List E) → members (e ∷ rest) ≡ member (text e) (document e) (members rest)
  pub more_flaws : (e : E) (rest : List E) → flaws (e ∷ rest) ≡ flaws_of e ++ flaws rest
  pub more_sound : (e : E) (rest : List E) → SoundOne e → Sound rest → Sound (e ∷ rest)

-- some members are written, and others are left
pub record SoFar {E : Type 0} (shape : MembersShape E) (old now : List Token) (all left : List E) : Type 0 where
  pub tokens : old ++ members_tokens (shape.members all) ≡ now ++ members_tokens (shape.members left)
  pub same_flaws : shape.flaws all ≡ shape.flaws left
  pub sound : shape.Sound left → shape.Sound all

module _ {E : Type 0} (shape : MembersShape E) where
  -- before the first member
  pub begun : (old now : List Token) (all left : List E) → now ≡ old → left ≡ all → SoFar shape old now all left
  begun old now all left here same = record {
    tokens = ap (λ l. l ++ members_tokens (shape.members all)) (sym here) ∙ ap (λ es. now ++ members_tokens (shape.members es)) (sym same);
    same_flaws = ap shape.flaws (sym same);
    sound = λ it. subst shape.Sound same it;
  }

  -- after one more
  pub turn : (old now new : List Token) (all left rest : List E) (e : E) → SoFar shape old now all left → left ≡ e ∷ rest
      → AddsField now new (shape.text e) (Some (shape.document e)) → IsFree (shape.flaws_of e) (shape.SoundOne e) → SoFar shape old new all rest
  turn old now new all left rest e so_far is added free = record {
    tokens = so_far.tokens ∙ ap (λ es. now ++ members_tokens (shape.members es)) is ∙ ap (λ ms. now ++ members_tokens ms) (shape.one_more e rest)
        ∙ sym (added (shape.members rest));
    same_flaws = so_far.same_flaws ∙ ap shape.flaws is ∙ shape.more_flaws e rest ∙ ap (λ xs. xs ++ shape.flaws rest) free.flawless;
    sound = λ it. so_far.sound (subst shape.Sound (sym is) (shape.more_sound e rest free.sound it));
  }

  -- after a key with a value
  pub turn_by : (old now keyed new : List Token) (all left rest : List E) (e : E) → SoFar shape old now all left → left ≡ e ∷ rest
      → keyed ≡ now ++ key (shape.text e) ∷ [] → AddsValue keyed new (shape.document e) → IsFree (shape.flaws_of e) (shape.SoundOne e)
      → SoFar shape old new all rest
  turn_by old now keyed new all left rest e so_far is named added free =
      turn old now new all left rest e so_far is (field_added now keyed new (shape.text e) (shape.document e) named added) free

  -- where none is left, and the bracket closes them
  pub members_ended : (opened now new : List Token) (all left : List E) → SoFar shape opened now all left → left ≡ []
      → new ≡ now ++ end_object ∷ [] → AddsMembers opened new (shape.members all)
  members_ended opened now new all left so_far none ended =
      ended ∙ ap (λ ms. now ++ members_tokens ms) (sym shape.no_more) ∙ ap (λ es. now ++ members_tokens (shape.members es)) (sym none)
      ∙ sym so_far.tokens

  -- and they are an object behind the bracket that opens it
  pub members_added : (old opened now new : List Token) (all left : List E) → SoFar shape opened now all left → left ≡ []
      → opened ≡ old ++ begin_object ∷ [] → new ≡ now ++ end_object ∷ [] → AddsValue old new (object (shape.members all))
  members_added old opened now new all left so_far none begun ended =
      members_ended opened now new all left so_far none ended ∙ ap (λ l. l ++ members_tokens (shape.members all)) begun
      ∙ append_assoc old (begin_object ∷ []) (members_tokens (shape.members all))

  -- all are free
  pub members_free : (opened now : List Token) (all left : List E) → SoFar shape opened now all left → left ≡ []
      → IsFree (shape.flaws all) (shape.Sound all)
  members_free opened now all left so_far none = record {
    flawless = so_far.same_flaws ∙ ap shape.flaws none ∙ shape.no_flaws;
    sound = so_far.sound (subst shape.Sound (sym none) shape.none_sound);
  }

  -- a flaw of one is one of all
  pub member_flaw : (opened now : List Token) (all left rest : List E) (e : E) (f : WriteFault) → SoFar shape opened now all left → left ≡ e ∷ rest
      → IsFlawOf (shape.flaws_of e) f → IsFlawOf (shape.flaws all) f
  member_flaw opened now all left rest e f so_far is flawed =
      subst (λ xs. IsFlawOf xs f) (sym (so_far.same_flaws ∙ ap shape.flaws is ∙ shape.more_flaws e rest))
      (flaw_left (shape.flaws_of e) (shape.flaws rest) f flawed)

-- values that are written one after another as the items of an array
module _ {E : Type 0} (document : E → Json) where
  -- the items of some values
  abbrev pub items_from : List E → Items
  items_from [] = no_items
  items_from (e ∷ rest) = item (document e) (items_from rest)

  -- one more item
  pub item_turn : (old now new : List Token) (all left rest : List E) (e : E)
      → old ++ items_tokens (items_from all) ≡ now ++ items_tokens (items_from left) → left ≡ e ∷ rest → AddsValue now new (document e)
      → old ++ items_tokens (items_from all) ≡ new ++ items_tokens (items_from rest)
  item_turn old now new all left rest e so_far is added =
      so_far ∙ ap (λ es. now ++ items_tokens (items_from es)) is
      ∙ sym (append_assoc now (json_tokens (document e)) (items_tokens (items_from rest)))
      ∙ ap (λ l. l ++ items_tokens (items_from rest)) (sym added)

  -- where none is left
  pub items_ended : (old now new : List Token) (all left : List E)
      → old ++ items_tokens (items_from all) ≡ now ++ items_tokens (items_from left) → left ≡ [] → new ≡ now ++ end_array ∷ []
      → new ≡ old ++ items_tokens (items_from all)
  items_ended old now new all left so_far none ended =
      ended ∙ ap (λ es. now ++ items_tokens (items_from es)) (sym none) ∙ sym so_far

  pub array_added : (old opened now new : List Token) (all left : List E)
      → opened ++ items_tokens (items_from all) ≡ now ++ items_tokens (items_from left) → left ≡ [] → opened ≡ old ++ begin_array ∷ []
      → new ≡ now ++ end_array ∷ [] → AddsValue old new (array (items_from all))
  array_added old opened now new all left so_far none begun ended =
      items_ended opened now new all left so_far none ended ∙ ap (λ l. l ++ items_tokens (items_from all)) begun
      ∙ append_assoc old (begin_array ∷ []) (items_tokens (items_from all))
