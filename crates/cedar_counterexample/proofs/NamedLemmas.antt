-- Values of a record that are given their names one after another.
use Rattle.std.proofs.Common.{◌≡◌, ◌++◌, List, [], ◌∷◌, append_assoc, ap, map, refl, string_bytes, string_cmp, subst, sym, ◌∙◌, Global}
use Rattle.std.proofs.lemmas.List.{append-nil, map-append}
use Rattle.std.specs.BTreeMap.{BTreeMap, insert_entry}
use Rattle.std.specs.List.Sorted.{IsStrictlySortedBy}
use Rattle.std.specs.Map.{keys_of}
use Rattle.std.specs.String.{string_cmp_total}
use Rattle.std.specs.declared.string.String.{String}
use Rattle.cedar_ast.proofs.Ordered.{above_front, insert_entry-end}
use Rattle.cedar_ast.proofs.ValueCopies.{Pairs, plain_pairs}
use Rattle.cedar_counterexample.specs.Words.{RestrictedExpr, Text, Tree, Value, entries_from, entries_of, tree_of, value_entries, value_expr}

-- the values of a map, each under its name
abbrev pub Named : Type 0
Named = List (String Global × Value)

-- the expressions that they are given by
abbrev pub opened : Named → Pairs
opened values = map (λ entry. (entry.0, value_expr entry.1)) values

-- the names stay
keys-opened : (values : Named) → keys_of (opened values) ≡ keys_of values
keys-opened [] = refl
keys-opened (entry ∷ rest) = ap (λ keys. entry.0 ∷ keys) (keys-opened rest)

-- of the expressions of a map, which are in order, some are named, and the others are left
pub record NamedSoFar (all : Pairs) (made : Named) (left : Pairs) : Type 0 where
  pub split : all ≡ opened made ++ left
  pub ordered : IsStrictlySortedBy string_cmp (keys_of all)

-- one more is named, and goes to the end
pub named_more : (all : Pairs) (made after : Named) (left rest : Pairs) (name : String Global) (expr : RestrictedExpr) (value : Value)
    → left ≡ (name, expr) ∷ rest → value_expr value ≡ expr → after ≡ insert_entry string_cmp made name value → NamedSoFar all made left
    → NamedSoFar all after rest
named_more all made after left rest name expr value is opens inserted so_far =
    let split : all ≡ opened made ++ (name, expr) ∷ rest = so_far.split ∙ ap (λ others. opened made ++ others) is in
    let names : keys_of all ≡ keys_of made ++ name ∷ keys_of rest =
    ap keys_of split
    ∙ (map-append (λ entry. entry.0) (opened made) ((name, expr) ∷ rest) ∙ ap (λ keys. keys ++ name ∷ keys_of rest) (keys-opened made)) in
    let behind : after ≡ made ++ (name, value) ∷ [] =
    inserted ∙ insert_entry-end string_cmp made name value
    (above_front string_cmp_total (keys_of made) name (keys_of rest) (subst (IsStrictlySortedBy string_cmp) names so_far.ordered)) in
    let more : opened made ++ (name, expr) ∷ [] ≡ opened after =
    sym (ap opened behind
    ∙ (map-append (λ entry. (entry.0, value_expr entry.1)) made ((name, value) ∷ []) ∙ ap (λ last. opened made ++ (name, last) ∷ []) opens)) in
    let moved : opened made ++ (name, expr) ∷ rest ≡ opened after ++ rest =
    sym (append_assoc (opened made) ((name, expr) ∷ []) rest) ∙ ap (λ front. front ++ rest) more in
    record { split = split ∙ moved; ordered = so_far.ordered }

-- what a named value stands for is what its expression does
plain-opened : (values : Named) → map (λ (entry : String Global × Value). (string_bytes entry.0, tree_of (value_expr entry.1))) values
    ≡ plain_pairs (opened values)
plain-opened [] = refl
plain-opened (entry ∷ rest) = ap (λ (pairs : List (Text × Tree)). (string_bytes entry.0, tree_of (value_expr entry.1)) ∷ pairs) (plain-opened rest)

-- where none is left, all stand for the same
pub named_all : (exprs : BTreeMap (String Global) RestrictedExpr) (values : BTreeMap (String Global) Value) (left : Pairs) → left ≡ []
    → NamedSoFar exprs.entries values.entries left → value_entries values ≡ entries_of exprs
named_all exprs values left nothing so_far =
    let all : opened values.entries ≡ exprs.entries =
    sym (so_far.split ∙ (ap (λ rest. opened values.entries ++ rest) nothing ∙ append-nil (opened values.entries))) in
    ap entries_from (plain-opened values.entries ∙ ap plain_pairs all)
