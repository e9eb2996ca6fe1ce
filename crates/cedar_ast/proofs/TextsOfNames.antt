-- A name is known by its text.
use Rattle.std.proofs.Common.{◌≡◌, ◌≢◌, ℕ, suc, Bool, true, false, List, [], ◌∷◌, ◌++◌, codes, All, refl, sym, ap, ◌∙◌, arith}
use Rattle.std.proofs.lemmas.Bool.{false≢true}
use Rattle.std.proofs.lemmas.List.{append_assoc}
use Rattle.std.specs.List.{list_all}
use Rattle.cedar_ast.proofs.NameReading.{both_true, ids_are_identifiers, path_text}
use Rattle.cedar_ast.specs.Words.{InternalName, IsIdentifier, IsOfIdentifiers, PlainName, Text, is_identifier_byte, name_of, name_text}

-- each byte of the text may stand in an identifier
abbrev IsWord : Text → Type 0
IsWord text = list_all is_identifier_byte text ≡ true

-- the bytes of an identifier may stand in one
word : (text : Text) → IsIdentifier text → IsWord text
word [] is = absurd (false≢true is)
word (byte ∷ text) is = (both_true _ (list_all is_identifier_byte (byte ∷ text)) is).1

-- equal lists have equal heads
pub cons_head : {b c : ℕ} {x y : Text} → b ∷ x ≡ c ∷ y → b ≡ c
cons_head e = cc

-- and equal rests
pub cons_rest : {b c : ℕ} {x y : Text} → b ∷ x ≡ c ∷ y → x ≡ y
cons_rest e = cc

-- a part, its `::` and what follows
shifted : (part path base : Text) → ((part ++ codes "::") ++ path) ++ base ≡ part ++ 58 ∷ 58 ∷ (path ++ base)
shifted part path base = append_assoc (part ++ codes "::") path base ∙ append_assoc part (codes "::") (path ++ base)

-- what stands before a mark is known, where a test passes all before it and not the mark
pub cut : (test : ℕ → Bool) (mark : ℕ) → test mark ≡ false → (p q x y : Text) → list_all test p ≡ true → list_all test q ≡ true
    → p ++ mark ∷ x ≡ q ++ mark ∷ y → (p ≡ q) × (x ≡ y)
cut test mark fails [] [] x y _ _ e = (refl, cons_rest e)
cut test mark fails [] (c ∷ q) x y _ all e =
    absurd (false≢true (sym fails ∙ ap test (cons_head e) ∙ (both_true (test c) (list_all test q) all).0))
cut test mark fails (b ∷ p) [] x y all _ e =
    absurd (false≢true (sym fails ∙ sym (ap test (cons_head e)) ∙ (both_true (test b) (list_all test p) all).0))
cut test mark fails (b ∷ p) (c ∷ q) x y before after e =
    let rest = cut test mark fails p q x y (both_true (test b) (list_all test p) before).1 (both_true (test c) (list_all test q) after).1
    (cons_rest e) in
    let first : b ≡ c = cons_head e in
    (λ i. first i ∷ rest.0 i, rest.1)

-- and no mark stands where it passes all
pub no_cut : (test : ℕ → Bool) (mark : ℕ) → test mark ≡ false → (p q y : Text) → list_all test p ≡ true → p ≢ q ++ mark ∷ y
no_cut test mark fails [] [] y _ e = absurd cc
no_cut test mark fails [] (c ∷ q) y _ e = absurd cc
no_cut test mark fails (b ∷ p) [] y all e =
    absurd (false≢true (sym fails ∙ sym (ap test (cons_head e)) ∙ (both_true (test b) (list_all test p) all).0))
no_cut test mark fails (b ∷ p) (c ∷ q) y all e = no_cut test mark fails p q y (both_true (test b) (list_all test p) all).1 (cons_rest e)

-- the rest of identifiers are identifiers
All-rest : (first : Text) (rest : List Text) → All IsIdentifier (first ∷ rest) → All IsIdentifier rest
All-rest first rest all k d below = all (suc k) d (omega (arith, below))

-- paths and base names that print alike are the same
parts_by_text : (path other : List Text) (base last : Text) → All IsIdentifier path → All IsIdentifier other → IsIdentifier base
    → IsIdentifier last → path_text path ++ base ≡ path_text other ++ last → (path ≡ other) × (base ≡ last)
parts_by_text [] [] base last _ _ _ _ e = (refl, e)
parts_by_text [] (q ∷ other) base last _ _ is _ e =
    absurd (no_cut is_identifier_byte 58 refl base q (58 ∷ (path_text other ++ last)) (word base is) (e ∙ shifted q (path_text other) last))
parts_by_text (p ∷ path) [] base last _ _ _ is e =
    absurd (no_cut is_identifier_byte 58 refl last p (58 ∷ (path_text path ++ base)) (word last is) (sym e ∙ shifted p (path_text path) base))
parts_by_text (p ∷ path) (q ∷ other) base last all others is its e =
    let halves = cut is_identifier_byte 58 refl p q _ _ (word p (all 0 p (omega arith))) (word q (others 0 q (omega arith)))
    (sym (shifted p (path_text path) base) ∙ e ∙ shifted q (path_text other) last) in
    let rest = parts_by_text path other base last (All-rest p path all) (All-rest q other others) is its (cons_rest halves.1) in
    (λ i. halves.0 i ∷ rest.0 i, rest.1)

-- names of identifiers that print alike are the same
pub names_by_text : (a b : PlainName) → IsOfIdentifiers a → IsOfIdentifiers b → name_text a ≡ name_text b → a ≡ b
names_by_text a b (base, path) (last, other) e =
    let same = parts_by_text a.path b.path a.base b.base path other base last e in
    λ i. record { base = same.1 i; path = same.0 i }

-- a name's parts are identifiers
pub IsOfIdentifiers-name_of : (name : InternalName) → IsOfIdentifiers (name_of name)
IsOfIdentifiers-name_of name = (name.parts.value.id.identifier, ids_are_identifiers name.parts.value.path.items)
