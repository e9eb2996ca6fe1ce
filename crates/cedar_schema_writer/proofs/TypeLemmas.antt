-- Types that can be written, and attributes as they are written one after another.
use Rattle.std.proofs.Common.{◌≡◌, ◌↔◌, ◌≤◌, ◌+◌, ◌++◌, ℕ, Bool, false, List, [], ◌∷◌, Option, Some, None, IsSome, map, ap, sym, subst, ◌∙◌, refl, inl, inr, append_assoc, arith, string_bytes}
use Rattle.std.proofs.lemmas.List.{map-append}
use Rattle.std.specs.BTreeMap.{insert_entry}
use Rattle.std.specs.List.{AllByRecursion}
use Rattle.std.specs.Map.{keys_of}
use Rattle.std.specs.Option.{option_map, option_zip}
use Rattle.std.specs.String.{string_cmp}
use Rattle.std.specs.declared.alloc.Global.{Global}
use Rattle.std.specs.declared.cmp.Ordering.TheVariants.{Greater}
use Rattle.std.specs.declared.string.String.{String}
use Rattle.cedar_ast.proofs.Basics.{Contains-single}
use Rattle.cedar_ast.proofs.Lists.{Contains-cons}
use Rattle.cedar_ast.proofs.Ordered.{above_front, insert_entry-end}
use Rattle.cedar_ast.proofs.Texts.{text_cmp-total}
use Rattle.cedar_schema_writer.specs.Words.{ClosedAttributes, Expr, Fields, IsSortedByName, IsSoundType, Members, Names, NamesNoOther, PlainName, RawName, Text, Ty, TypeOfAttribute, end, extension_of, field, field_names, fields_written, member, members_from, no_member, only_name, plain_members, raw_attribute, record_expr, record_of, set_of, text_cmp, type_written, union_of}

abbrev mutual
  -- how many parts a type has
  pub ty_size : Ty → ℕ
  ty_size (set_of ty) = ty_size ty + 1
  ty_size (record_of fields openness) = fields_size fields + 1
  ty_size _ = 0

  -- how many the types of attributes have
  pub fields_size : Fields → ℕ
  fields_size end = 0
  fields_size (field text required ty rest) = ty_size ty + fields_size rest + 1

-- something is given by a function exactly where there is something to give it of
pub some-map : {A B : Type 0} (f : A → B) (a : Option A) → IsSome (option_map f a) ↔ IsSome a
some-map f None = (λ some. absurd cc, λ some. absurd cc)
some-map f (Some a) = (λ some. refl, λ some. refl)

-- some pair is given exactly where there are both
pub some-both : {A B C : Type 0} (f : A × B → C) (a : Option A) (b : Option B)
    → IsSome (option_map f (option_zip a b)) ↔ (IsSome a × IsSome b)
some-both f (Some a) (Some b) = (λ some. (refl, refl), λ both. refl)
some-both f _ _ = (λ some. absurd cc, λ both. absurd cc)

-- what is none isn't something
pub some-none : {A : Type 0} (a : Option A) → a ≡ None → ¬ IsSome a
some-none None is some = cc
some-none (Some a) is some = cc

-- what is something is so
pub there-some : {A : Type 0} (a : Option A) (x : A) → a ≡ Some x → IsSome a
there-some None x is = cc
there-some (Some a) x is = refl

-- where both are there, the pair is
pub both-there : {A B C : Type 0} (f : A × B → C) (a : Option A) (b : Option B) (x : A) (y : B) → a ≡ Some x → b ≡ Some y
    → option_map f (option_zip a b) ≡ Some (f (x, y))
both-there f a b x y is also = (λ i. option_map f (option_zip (is i) (also i)))

-- some attributes before others
pub before : List (Text × (Bool × Expr)) → Members → Members
before [] rest = rest
before (item ∷ items) rest = member item.0 item.1.0 item.1.1 (before items rest)

pub before-end : (items : List (Text × (Bool × Expr))) → before items no_member ≡ members_from items
unfolding before
before-end [] = refl
before-end (item ∷ items) = ap (λ rest. member item.0 item.1.0 item.1.1 rest) (before-end items)

pub before-pushed : (items : List (Text × (Bool × Expr))) (last : Text × (Bool × Expr)) (rest : Members)
    → before (items ++ last ∷ []) rest ≡ before items (member last.0 last.1.0 last.1.1 rest)
unfolding before
before-pushed [] last rest = refl
before-pushed (item ∷ items) last rest = ap (λ others. member item.0 item.1.0 item.1.1 others) (before-pushed items last rest)

pub before-none : (rest : Members) → before [] rest ≡ rest
unfolding before
before-none rest = refl

module _ (names : Names) (namespace : Option PlainName) where
  -- the record type of attributes can be written
  abbrev pub AreSoundFields : Fields → Type 0
  AreSoundFields fields = IsSoundType names namespace (record_of fields ClosedAttributes)

  -- attributes can be written exactly if the type of the first and the others can
  pub sound-field : (name : Text) (required : Bool) (ty : Ty) (rest : Fields)
      → AreSoundFields (field name required ty rest) ↔ (IsSoundType names namespace ty × AreSoundFields rest)
  sound-field name required ty rest =
      let make : Expr × Members → Members = λ both. member name required both.0 both.1 in
      let all = some-map (λ members. record_expr members false) (fields_written namespace (field name required ty rest)) in
      let others = some-map (λ members. record_expr members false) (fields_written namespace rest) in
      let both = some-both make (type_written namespace ty) (fields_written namespace rest) in (
        λ sound. (
          record { written = (both.0 (all.0 sound.written)).0; no_other = λ it mentions. sound.no_other it (inl mentions) },
          record { written = others.1 (both.0 (all.0 sound.written)).1; no_other = λ it mentions. sound.no_other it (inr mentions) },
        ),
        λ sounds. record {
          written = all.1 (both.1 (sounds.0.written, others.0 sounds.1.written));
          no_other = λ it. elim [ inl first ↦ sounds.0.no_other it first | inr later ↦ sounds.1.no_other it later ];
        },
      )

  -- a type without an expression can't be written
  pub unsound-none : (ty : Ty) → type_written namespace ty ≡ None → ¬ IsSoundType names namespace ty
  unsound-none ty none sound = some-none (type_written namespace ty) none sound.written

  -- a union of one entity type can be written exactly if its name names no other
  pub sound-union : (union : List PlainName) (name : PlainName) → only_name union ≡ Some name
      → IsSoundType names namespace (union_of union) ↔ NamesNoOther names namespace name
  sound-union (first ∷ []) name is =
      let same : first ≡ name = cc in
      let IsOnlyOne : PlainName → Type 0 = NamesNoOther names namespace in (
        λ sound. rw same at (sound.no_other first (Contains-cons first [] first (inl refl))),
        λ no_other. record {
          written = refl;
          no_other = λ it mentions. subst IsOnlyOne (sym same ∙ Contains-single first it mentions) no_other;
        },
      )
  sound-union _ name is = cc

  -- an extension type that has an expression can be written
  pub sound-extension : (name : PlainName) (expr : Expr) → type_written namespace (extension_of name) ≡ Some expr
      → IsSoundType names namespace (extension_of name)
  sound-extension name expr is = record {
    written = there-some (type_written namespace (extension_of name)) expr is;
    no_other = λ it none. absurd none;
  }

  -- some attributes are written, and others are left
  pub record AttributesSoFar (all left : Fields) (made : List (Text × (Bool × Expr))) : Type 0 where
    pub written : (rest : Members) → fields_written namespace left ≡ Some rest → fields_written namespace all ≡ Some (before made rest)
    pub sound : AreSoundFields left → AreSoundFields all
    pub left_sound : AreSoundFields all → AreSoundFields left
    pub names_split : map (λ (item : Text × (Bool × Expr)). item.0) made ++ field_names left ≡ field_names all
    pub smaller : fields_size left ≤ fields_size all

  -- at first none is
  pub attributes_none : (all left : Fields) (made : List (Text × (Bool × Expr))) → left ≡ all → made ≡ [] → AttributesSoFar all left made
  attributes_none all left made same nothing =
      rw (same, nothing) (record {
        written = λ rest is. is ∙ ap Some (sym (before-none rest));
        sound = λ sound. sound;
        left_sound = λ sound. sound;
        names_split = refl;
        smaller = omega arith;
      })

  module _ (all left rest : Fields) (made : List (Text × (Bool × Expr))) (name : Text) (required : Bool) (ty : Ty)
      (is : left ≡ field name required ty rest) (so_far : AttributesSoFar all left made) where
    at : AttributesSoFar all (field name required ty rest) made
    at = rw is at so_far

    -- the type of the next can be written, where all can
    pub next_sound : AreSoundFields all → IsSoundType names namespace ty
    next_sound sound = ((sound-field name required ty rest).0 (at.left_sound sound)).0

    -- it has fewer parts than all
    pub next_smaller : ty_size ty + 1 ≤ fields_size all
    next_smaller = let h = at.smaller in omega arith

    -- its name is above all that are made
    pub next_above : IsSortedByName all → AllByRecursion (λ other. text_cmp name other ≡ Greater) (map (λ (item : Text × (Bool
        × Expr)). item.0) made)
    next_above up =
        above_front text_cmp-total (map (λ (item : Text × (Bool × Expr)). item.0) made) name (field_names rest) (rw at.names_split up)

    -- one more is written
    pub attributes_more : (expr : Expr) → type_written namespace ty ≡ Some expr → IsSoundType names namespace ty
        → AttributesSoFar all rest (made ++ (name, (required, expr)) ∷ [])
    attributes_more expr written sound = record {
      written = λ others other_written.
          at.written (member name required expr others)
          (both-there (λ (both : Expr × Members). member name required both.0 both.1) (type_written namespace ty)
          (fields_written namespace rest)
          expr others written other_written)
          ∙ ap Some (sym (before-pushed made (name, (required, expr)) others));
      sound = λ others. at.sound ((sound-field name required ty rest).1 (sound, others));
      left_sound = λ whole. ((sound-field name required ty rest).0 (at.left_sound whole)).1;
      names_split =
          ap (λ texts. texts ++ field_names rest) (map-append (λ (item : Text × (Bool × Expr)). item.0) made ((
            name,
            (required, expr),
          ) ∷ []))
          ∙ (append_assoc (map (λ (item : Text × (Bool × Expr)). item.0) made) (name ∷ []) (field_names rest) ∙ at.names_split);
      smaller = let h = at.smaller in omega arith;
    }

  module _ (all left : Fields) (made : List (Text × (Bool × Expr))) (nothing : left ≡ end) (so_far : AttributesSoFar all left made) where
    done : AttributesSoFar all end made
    done = rw nothing at so_far

    -- where none is left, all are written
    pub attributes_all : fields_written namespace all ≡ Some (members_from made)
    attributes_all = done.written no_member refl ∙ ap Some (before-end made)

    -- and can be
    pub attributes_sound : AreSoundFields all
    attributes_sound = done.sound (record { written = refl; no_other = λ it none. absurd none })

-- a key is above others whose texts its text is above
pub above-keys : (name : Text) (key : String Global) (namespace : Option PlainName) (made : List (String Global × TypeOfAttribute RawName))
    → string_bytes key ≡ name
    → AllByRecursion (λ other. text_cmp name other ≡ Greater) (map (λ (item : Text × (Bool × Expr)). item.0) (plain_members namespace made))
    → AllByRecursion (λ other. string_cmp key other ≡ Greater) (keys_of made)
above-keys name key namespace [] same all = tt
above-keys name key namespace (first ∷ rest) same all =
    (rw same all.0, above-keys name key namespace rest same all.1)

-- an attribute that is put under such a key stands behind the others
pub put-behind : (name : Text) (key : String Global) (namespace : Option PlainName) (made : List (String Global × TypeOfAttribute RawName))
    (attribute : TypeOfAttribute RawName) (shown : Bool × Expr) → string_bytes key ≡ name → raw_attribute namespace attribute ≡ shown
    → AllByRecursion (λ other. text_cmp name other ≡ Greater) (map (λ (item : Text × (Bool × Expr)). item.0) (plain_members namespace made))
    → plain_members namespace (insert_entry string_cmp made key attribute) ≡ plain_members namespace made ++ (name, shown) ∷ []
put-behind name key namespace made attribute shown same is above =
    ap (plain_members namespace) (insert_entry-end string_cmp made key attribute (above-keys name key namespace made same above))
    ∙ (map-append (λ (entry : String Global × TypeOfAttribute RawName).
    (string_bytes entry.0, raw_attribute namespace entry.1)) made ((key, attribute) ∷ [])
    ∙ (λ i. plain_members namespace made ++ (same i, is i) ∷ []))
