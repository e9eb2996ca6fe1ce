-- The table of Cedar's extension functions, put into a map row by row.
use Rattle.std.proofs.Common.{◌≡◌, ℕ, ◌+◌, ◌<◌, ◌≤◌, ◌++◌, List, [], ◌∷◌, length, take, drop, drop_of_length-le, get_or, map, cond, Option, Some, option_map, Bool, true, false, refl, ap, sym, subst, ◌∙◌, Bor}
use Rattle.std.proofs.lemmas.List.{drop_more, map-append, take_all, take_more}
use Rattle.std.specs.BTreeMap.{insert_entry, is_at}
use Rattle.std.specs.Map.{lookup}
use Rattle.cedar_ast.proofs.Names.{name_ord-name_cmp}
use Rattle.cedar_ast.specs.contracts.name.NameOrd.TheImpl as name_ord
use Rattle.cedar_json.proofs.MapLemmas.{seen-insert}
use Rattle.cedar_json.specs.Words.{AreNames, AreRows, ExtensionFunction, IsRow, Name, PlainName, Row, Signature, SpellsName, Text, inserted, name_cmp, plain_name, row_signature, signature, texts_of, unqualified}

abbrev pub Signatures : Type 0
Signatures = List (PlainName × Signature)

-- what a map of functions stands for
abbrev pub shown : List (Name × ExtensionFunction) → Signatures
shown entries = map (λ entry. (plain_name entry.0, signature entry.1)) entries

seen_choice : (b : Bool) (x : ExtensionFunction) (o : Option ExtensionFunction) (rest : Option Signature) → option_map signature o ≡ rest
    → option_map signature (cond b (Some x) o) ≡ cond b (Some (signature x)) rest
seen_choice true x o rest e = refl
seen_choice false x o rest e = e

-- a function of the map is one of those for which it stands
pub looked_up : (name : PlainName) (entries : List (Name × ExtensionFunction))
    → option_map signature (lookup (is_at (λ key. name_cmp name (plain_name key))) entries) ≡ lookup (is_at (name_cmp name)) (shown entries)
looked_up name [] = refl
looked_up name (entry ∷ rest) =
    seen_choice (is_at (name_cmp name) (plain_name entry.0)) entry.1 (lookup (is_at (λ key. name_cmp name (plain_name key))) rest)
    (lookup (is_at (name_cmp name)) (shown rest)) (looked_up name rest)

-- the row at an index can be spelled, and so can those after it
pub row_at : (rows : List Row) (index : ℕ) (d : Row) → index < length rows → AreRows (drop index rows)
    → IsRow (get_or rows index d) × AreRows (drop (index + 1) rows)
row_at rows index d within left = subst AreRows (drop_more rows index d within) left

-- a row more
pub row_more : (rows : List Row) (index : ℕ) (d : Row) (entries new : List (Name × ExtensionFunction)) (name : Name) (function : ExtensionFunction)
    → index < length rows → inserted (drop index rows) (shown entries) ≡ inserted rows []
    → plain_name name ≡ unqualified (get_or rows index d).name.now → signature function ≡ row_signature (get_or rows index d)
    → new ≡ insert_entry (name_ord.ghosts).cmp entries name function
    → inserted (drop (index + 1) rows) (shown new) ≡ inserted rows []
row_more rows index d entries new name function within so_far named made grown =
    let rest = drop (index + 1) rows in
    ap (λ es. inserted rest (shown es)) grown
    ∙ ap (inserted rest) (seen-insert (name_ord.ghosts).cmp name_cmp plain_name signature name_ord-name_cmp entries name function)
    ∙ ap (λ n. inserted rest (insert_entry name_cmp (shown entries) n (signature function))) named
    ∙ ap (λ s. inserted rest (insert_entry name_cmp (shown entries) (unqualified (get_or rows index d).name.now) s)) made
    ∙ ap (λ rs. inserted rs (shown entries)) (sym (drop_more rows index d within)) ∙ so_far

-- where no row is left, all were put into the map
pub all_put : (rows : List Row) (index : ℕ) (entries : List (Name × ExtensionFunction)) → length rows ≤ index
    → inserted (drop index rows) (shown entries) ≡ inserted rows [] → shown entries ≡ inserted rows []
all_put rows index entries end so_far = ap (λ rs. inserted rs (shown entries)) (sym (drop_of_length-le rows end)) ∙ so_far

-- the text at an index can be spelled, and so can those after it
pub name_at : (texts : List (Bor Text)) (index : ℕ) (d : Bor Text) → index < length texts → AreNames (drop index texts)
    → SpellsName (get_or texts index d).now × AreNames (drop (index + 1) texts)
name_at texts index d within left = subst AreNames (drop_more texts index d within) left

-- what some texts are without a path
abbrev without_path : List (Bor Text) → List PlainName
without_path texts = map unqualified (texts_of texts)

without_path-push : (texts : List (Bor Text)) (text : Bor Text) → without_path (texts ++ text ∷ []) ≡ without_path texts ++ unqualified text.now ∷ []
without_path-push texts text =
    ap (map unqualified) (map-append (λ (it : Bor Text). it.now) texts (text ∷ [])) ∙ map-append unqualified (texts_of texts) (text.now ∷ [])

-- a name more
pub name_more : (texts : List (Bor Text)) (index : ℕ) (d : Bor Text) (names new : List Name) (name : Name) → index < length texts
    → map plain_name names ≡ map unqualified (texts_of (take index texts)) → plain_name name ≡ unqualified (get_or texts index d).now
    → new ≡ names ++ name ∷ [] → map plain_name new ≡ map unqualified (texts_of (take (index + 1) texts))
name_more texts index d names new name within so_far spelled grown =
    ap (map plain_name) grown ∙ map-append plain_name names (name ∷ [])
    ∙ ap (λ before. before ++ plain_name name ∷ []) so_far
    ∙ ap (λ it. without_path (take index texts) ++ it ∷ []) spelled
    ∙ sym (without_path-push (take index texts) (get_or texts index d))
    ∙ ap without_path (sym (take_more texts index d within))

-- where no text is left, all were spelled
pub all_named : (texts : List (Bor Text)) (index : ℕ) (names : List Name) → length texts ≤ index
    → map plain_name names ≡ map unqualified (texts_of (take index texts)) → map plain_name names ≡ map unqualified (texts_of texts)
all_named texts index names end so_far = so_far ∙ ap without_path (take_all index texts end)
