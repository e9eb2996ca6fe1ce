-- What a layout has so far, one edit after another.
use Rattle.std.proofs.Common.{◌≡◌, ◌≢◌, ◌≤◌, ℕ, List, [], ◌∷◌, ◌++◌, drop, take, length, map, refl, sym, ap, subst, ◌∙◌, arith, append-nil, append_assoc, Result, Ok, Err, OnOk, length-append}
use Rattle.std.proofs.lemmas.Grind.{flat_map-append}
use Rattle.std.proofs.lemmas.List.{drop-append-le, drop_all, map-append, take-append-drop}
use Rattle.std.specs.List.{AllByRecursion, flat_map, insert}
use Rattle.cedar_schema_text_layout.specs.Relaid.{AreRelaid, EachSpelled, Edit, GoesOn, IsEdit, IsListEnd, IsOfPath, IsRelaid, IsSoFar, brackets_added, by_comment, comma_added, comma_left_out, comments, edited, equals_added, given, kept, sign, tokens}
use Rattle.cedar_schema_text_layout.specs.declared.edited.Edited.{Edited}
use Rattle.cedar_schema_tokens.specs.Spelled.{IsSpelling, Spelled, spelled_of}
use Rattle.cedar_schema_tokens.specs.declared.spelled.Spelled as code
use Rattle.cedar_schema_tokens.specs.declared.spelled.SpelledKind.{SpelledKind}
use Rattle.cedar_schema_tokens.specs.declared.spelled.SpelledKind.TheVariants as kind
use Rattle.cedar_schema_tokens.specs.declared.token.Symbol.{Symbol}
use Rattle.cedar_schema_tokens.specs.declared.token.Symbol.TheVariants as sym

-- equal things in both places of something
in_both : {A B C : Type 0} (f : A → B → C) {a b : A} {x y : B} → a ≡ b → x ≡ y → f a x ≡ f b y
in_both f {a} {b} {x} {y} first second = ap (λ c. f c x) first ∙ ap (f b) second

-- ---- tokens and comments

pub tokens_append : (all more : List Spelled) → tokens (all ++ more) ≡ tokens all ++ tokens more
tokens_append = flat_map-append (λ it. by_comment it.kind [] (it ∷ []))

pub comments_append : (all more : List Spelled) → comments (all ++ more) ≡ comments all ++ comments more
comments_append = flat_map-append (λ it. by_comment it.kind (it ∷ []) [])

by_other : {A : Type 0} (it : SpelledKind) (one other : A) → it ≢ kind.Comment → by_comment it one other ≡ other
by_other kind.Comment one other isn't = absurd (isn't refl)
by_other kind.Id one other isn't = refl
by_other kind.Text one other isn't = refl
by_other (kind.Symbol m) one other isn't = refl

pub token_alone : (it : Spelled) → it.kind ≢ kind.Comment → tokens (it ∷ []) ≡ it ∷ []
token_alone it is = append-nil _ ∙ by_other it.kind [] (it ∷ []) is

pub no_comment : (it : Spelled) → it.kind ≢ kind.Comment → comments (it ∷ []) ≡ []
no_comment it is = append-nil _ ∙ by_other it.kind (it ∷ []) [] is

pub comment_alone : (it : Spelled) → it.kind ≡ kind.Comment → comments (it ∷ []) ≡ it ∷ []
comment_alone it is = append-nil _ ∙ ap (λ k. by_comment k (it ∷ []) []) is

pub no_token : (it : Spelled) → it.kind ≡ kind.Comment → tokens (it ∷ []) ≡ []
no_token it is = append-nil _ ∙ ap (λ k. by_comment k [] (it ∷ [])) is

-- ---- what holds of each

pub all_append : {A : Type 0} (P : A → Type 0) (xs ys : List A) → AllByRecursion P xs → AllByRecursion P ys → AllByRecursion P (xs ++ ys)
all_append P [] ys here there = there
all_append P (x ∷ xs) ys here there = (here.0, all_append P xs ys here.1 there)

pub all_parts : {A : Type 0} (P : A → Type 0) (xs ys : List A) → AllByRecursion P (xs ++ ys) → AllByRecursion P xs × AllByRecursion P ys
all_parts P [] ys here = (tt, here)
all_parts P (x ∷ xs) ys here = let more = all_parts P xs ys here.1 in ((here.0, more.0), more.1)

-- ---- an edit more

relaid_more : (all others : List Spelled) (edit : Edit) → AreRelaid all others → IsEdit edit → AreRelaid (all ++ given edit) (others ++ edited edit)
relaid_more all others edit relaid is = (
  relaid.0 ++ edit ∷ [],
  all_append IsEdit relaid.0 (edit ∷ []) relaid.1 (is, tt),
  ap (λ xs. xs ++ given edit) relaid.2 ∙ sym (flat_map-append given relaid.0 (edit ∷ []) ∙ ap (λ xs. flat_map given relaid.0 ++ xs) (append-nil (given edit))),
  ap (λ xs. xs ++ edited edit) relaid.3 ∙ sym (flat_map-append edited relaid.0 (edit ∷ []) ∙ ap (λ xs. flat_map edited relaid.0 ++ xs) (append-nil (edited edit))),
)

-- what goes on by an edit is relaid, where the comments go on alike
pub edit_more : (all more items others : List Spelled) (edit : Edit) → IsRelaid all items → IsEdit edit → tokens more ≡ given edit
    → tokens others ≡ tokens items ++ edited edit → comments others ≡ comments items ++ comments more → IsRelaid (all ++ more) others
edit_more all more items others edit relaid is from to same = record {
  tokens_relaid =
      subst (λ xs. AreRelaid xs (tokens others)) (sym (tokens_append all more ∙ ap (λ xs. tokens all ++ xs) from))
      (subst (AreRelaid (tokens all ++ given edit)) (sym to) (relaid_more (tokens all) (tokens items) edit relaid.tokens_relaid is));
  same_comments = same ∙ ap (λ xs. xs ++ comments more) relaid.same_comments ∙ sym (comments_append all more);
}

-- and so is what goes on by comments alone
pub comments_more : (all more items others : List Spelled) → IsRelaid all items → tokens more ≡ [] → tokens others ≡ tokens items
    → comments others ≡ comments items ++ comments more → IsRelaid (all ++ more) others
comments_more all more items others relaid from to same = record {
  tokens_relaid =
      subst (λ xs. AreRelaid xs (tokens others)) (sym (tokens_append all more ∙ ap (λ xs. tokens all ++ xs) from ∙ append-nil (tokens all)))
      (subst (AreRelaid (tokens all)) (sym to) relaid.tokens_relaid);
  same_comments = same ∙ ap (λ xs. xs ++ comments more) relaid.same_comments ∙ sym (comments_append all more);
}

-- ---- what a layout has so far

abbrev plain : Edited → List Spelled
plain it = map spelled_of it.items.items

spelled_on : (all more items : List Spelled) → (EachSpelled all → EachSpelled items) → EachSpelled (all ++ more) → EachSpelled items × EachSpelled more
spelled_on all more items each spelled =
    let parts = all_parts (λ it. IsSpelling it.kind it.text) all more spelled in (each parts.0, parts.1)

nothing_behind : (new : Edited) → new.end ≡ length new.items.items → tokens (map spelled_of (drop new.end new.items.items)) ≡ []
nothing_behind new end = ap (λ xs. tokens (map spelled_of xs)) (drop_all new.end new.items.items (omega (arith, end)))

pub nothing_so_far : (it : Edited) → it.items.items ≡ [] → it.end ≡ 0 → IsSoFar [] it
nothing_so_far it none end = record {
  relaid = subst (IsRelaid []) (sym (ap (map spelled_of) none)) (record { tokens_relaid = ([], tt, refl, refl); same_comments = refl });
  spelled = λ each. subst EachSpelled (sym (ap (map spelled_of) none)) tt;
  within = omega (arith, end);
  behind = ap (λ xs. tokens (map spelled_of xs)) (drop_all it.end it.items.items (omega (arith, ap length none)));
}

-- a comment follows
pub goes_on_comment : (old new : Edited) (comment : code.Spelled) → comment.kind ≡ kind.Comment
    → new.items.items ≡ old.items.items ++ comment ∷ [] → new.end ≡ old.end → GoesOn old (spelled_of comment ∷ []) new
goes_on_comment old new comment is items end all so_far =
    let it = spelled_of comment in
    let same : plain new ≡ plain old ++ it ∷ [] = ap (map spelled_of) items ∙ map-append spelled_of old.items.items (comment ∷ []) in
    let left : drop new.end new.items.items ≡ drop old.end old.items.items ++ comment ∷ [] =
    in_both drop end items ∙ drop-append-le old.end old.items.items (comment ∷ []) so_far.within in
    record {
      relaid =
          comments_more all (it ∷ []) (plain old) (plain new) so_far.relaid (no_token it is)
          (ap tokens same ∙ tokens_append (plain old) (it ∷ []) ∙ ap (λ xs. tokens (plain old) ++ xs) (no_token it is) ∙ append-nil _)
          (ap comments same ∙ comments_append (plain old) (it ∷ []));
      spelled = λ each. let parts = spelled_on all (it ∷ []) (plain old) so_far.spelled each in
          subst EachSpelled (sym same) (all_append _ (plain old) (it ∷ []) parts.0 parts.1);
      within = omega (arith, end, so_far.within, ap length items, length-append old.items.items (comment ∷ []));
      behind =
          ap (λ xs. tokens (map spelled_of xs)) left ∙ ap tokens (map-append spelled_of (drop old.end old.items.items) (comment ∷ []))
          ∙ tokens_append (map spelled_of (drop old.end old.items.items)) (it ∷ [])
          ∙ ap (λ xs. xs ++ tokens (it ∷ [])) so_far.behind ∙ no_token it is;
    }

-- an edit follows, behind which there is nothing
goes_on_edit : (old new : Edited) (more : List Spelled) (edit : Edit) → IsEdit edit → tokens more ≡ given edit
    → tokens (plain new) ≡ tokens (plain old) ++ edited edit → comments (plain new) ≡ comments (plain old) ++ comments more
    → (EachSpelled (plain old) → EachSpelled more → EachSpelled (plain new)) → new.end ≡ length new.items.items → (all : List Spelled)
    → IsSoFar all old → IsSoFar (all ++ more) new
goes_on_edit old new more edit is from to same each end all so_far = record {
  relaid = edit_more all more (plain old) (plain new) edit so_far.relaid is from to same;
  spelled = λ spelled. let parts = spelled_on all more (plain old) so_far.spelled spelled in each parts.0 parts.1;
  within = omega (arith, end);
  behind = nothing_behind new end;
}

-- an edit follows, of which all is added at the end
goes_on_added : (old new : Edited) (more added : List Spelled) (edit : Edit) → IsEdit edit → tokens more ≡ given edit
    → plain new ≡ plain old ++ added → tokens added ≡ edited edit → comments added ≡ comments more
    → (EachSpelled more → EachSpelled added) → new.end ≡ length new.items.items → GoesOn old more new
goes_on_added old new more added edit is from same to alike each end =
    goes_on_edit old new more edit is from
    (ap tokens same ∙ tokens_append (plain old) added ∙ ap (λ xs. tokens (plain old) ++ xs) to)
    (ap comments same ∙ comments_append (plain old) added ∙ ap (λ xs. comments (plain old) ++ xs) alike)
    (λ here there. subst EachSpelled (sym same) (all_append _ (plain old) added here (each there)))
    end

-- a token follows
pub goes_on_token : (old new : Edited) (token : code.Spelled) → token.kind ≢ kind.Comment
    → new.items.items ≡ old.items.items ++ token ∷ [] → new.end ≡ length new.items.items → GoesOn old (spelled_of token ∷ []) new
goes_on_token old new token is items end =
    let it = spelled_of token in
    goes_on_added old new (it ∷ []) (it ∷ []) (kept it) tt (token_alone it is)
    (ap (map spelled_of) items ∙ map-append spelled_of old.items.items (token ∷ [])) (token_alone it is) refl (λ each. each) end

pub symbol_is_token : (it : Spelled) (m : Symbol) → it.kind ≡ kind.Symbol m → it.kind ≢ kind.Comment
symbol_is_token it m is isn't = absurd (let never = sym is ∙ isn't in cc)

-- an opening brace follows behind `=`
pub goes_on_equals : (old new : Edited) (equals brace : code.Spelled) → spelled_of equals ≡ sign sym.Equals → IsEdit (equals_added (spelled_of brace))
    → new.items.items ≡ (old.items.items ++ equals ∷ []) ++ brace ∷ [] → new.end ≡ length new.items.items → GoesOn old (spelled_of brace ∷ []) new
goes_on_equals old new equals brace spelled is items end =
    let it = spelled_of brace in
    let token = token_alone it (symbol_is_token it sym.OpenBrace is) in
    let same : plain new ≡ plain old ++ (sign sym.Equals ∷ it ∷ []) =
    ap (map spelled_of) (items ∙ append_assoc old.items.items (equals ∷ []) (brace ∷ [])) ∙ map-append spelled_of old.items.items (equals ∷ brace ∷ [])
    ∙ ap (λ x. plain old ++ (x ∷ it ∷ [])) spelled in
    goes_on_added old new (it ∷ []) (sign sym.Equals ∷ it ∷ []) (equals_added it) is token same
    (ap (λ xs. sign sym.Equals ∷ xs) token) refl (λ each. (refl, each)) end

-- one item follows, in brackets
pub goes_on_brackets : (old new : Edited) (first last : code.Spelled) (item : List code.Spelled) → spelled_of first ≡ sign sym.OpenBracket
    → spelled_of last ≡ sign sym.CloseBracket → tokens (map spelled_of item) ≢ [] → AllByRecursion IsOfPath (tokens (map spelled_of item))
    → new.items.items ≡ ((old.items.items ++ first ∷ []) ++ item) ++ last ∷ [] → new.end ≡ length new.items.items
    → GoesOn old (map spelled_of item) new
goes_on_brackets old new first last item opens closes some is items end =
    let its = map spelled_of item in
    let added = sign sym.OpenBracket ∷ (its ++ sign sym.CloseBracket ∷ []) in
    let flat : new.items.items ≡ old.items.items ++ (first ∷ (item ++ last ∷ [])) =
    items ∙ append_assoc (old.items.items ++ first ∷ []) item (last ∷ []) ∙ append_assoc old.items.items (first ∷ []) (item ++ last ∷ []) in
    let spelled : map spelled_of (first ∷ (item ++ last ∷ [])) ≡ added =
    ap (λ xs. spelled_of first ∷ xs) (map-append spelled_of item (last ∷ []))
    ∙ in_both (λ x y. x ∷ (its ++ y ∷ [])) opens closes in
    let same : plain new ≡ plain old ++ added =
    ap (map spelled_of) flat ∙ map-append spelled_of old.items.items (first ∷ (item ++ last ∷ [])) ∙ ap (λ xs. plain old ++ xs) spelled in
    goes_on_added old new its added (brackets_added (tokens its)) (some, is) refl same
    (ap (λ xs. sign sym.OpenBracket ∷ xs) (tokens_append its (sign sym.CloseBracket ∷ [])))
    (comments_append its (sign sym.CloseBracket ∷ []) ∙ append-nil (comments its))
    (λ each. (refl, all_append _ its (sign sym.CloseBracket ∷ []) each (refl, tt))) end

-- a comma, comments and a closing bracket follow; the comma is left out
pub goes_on_without_comma : (old new : Edited) (comma : code.Spelled) (rest : List code.Spelled) → IsListEnd (map spelled_of (comma ∷ rest))
    → new.items.items ≡ old.items.items ++ rest → new.end ≡ length new.items.items → GoesOn old (map spelled_of (comma ∷ rest)) new
goes_on_without_comma old new comma rest list_end items end =
    let between = list_end.1 in
    let bracket = list_end.2 in
    let its = map spelled_of rest in
    let here : its ≡ between ++ bracket ∷ [] = ap (drop 1) list_end.3 in
    let first : spelled_of comma ≡ list_end.0 = ap (λ xs. head_or (spelled_of comma) xs) list_end.3 in
    let token = token_alone bracket (symbol_is_token bracket sym.CloseBracket list_end.4.1) in
    let tokens_here : tokens its ≡ bracket ∷ [] = ap tokens here ∙ tokens_append between (bracket ∷ []) ∙ ap (λ xs. xs ++ tokens (bracket ∷ [])) list_end.5 ∙ token in
    let is_comma : (spelled_of comma).kind ≡ kind.Symbol sym.Comma = ap (λ it. it.kind) first ∙ list_end.4.0 in
    let comma_token = token_alone (spelled_of comma) (symbol_is_token (spelled_of comma) sym.Comma is_comma) in
    let no_comment_there = no_comment (spelled_of comma) (symbol_is_token (spelled_of comma) sym.Comma is_comma) in
    goes_on_added old new (spelled_of comma ∷ its) its (comma_left_out (spelled_of comma) bracket) (is_comma, list_end.4.1)
    (tokens_append (spelled_of comma ∷ []) its ∙ in_both (λ xs ys. xs ++ ys) comma_token tokens_here)
    (ap (map spelled_of) items ∙ map-append spelled_of old.items.items rest) tokens_here
    (sym (comments_append (spelled_of comma ∷ []) its ∙ ap (λ xs. xs ++ comments its) no_comment_there)) (λ each. each.1) end
  where
    head_or : Spelled → List Spelled → Spelled
    head_or other [] = other
    head_or other (x ∷ xs) = x

-- a closing brace follows, and a comma stands behind the last token
pub goes_on_comma : (old new : Edited) (comma brace : code.Spelled) → spelled_of comma ≡ sign sym.Comma → IsEdit (comma_added (spelled_of brace))
    → new.items.items ≡ insert old.items.items old.end comma ++ brace ∷ [] → new.end ≡ length new.items.items
    → GoesOn old (spelled_of brace ∷ []) new
goes_on_comma old new comma brace spelled is items end all so_far =
    let it = spelled_of brace in
    let front = map spelled_of (take old.end old.items.items) in
    let behind = map spelled_of (drop old.end old.items.items) in
    let token = token_alone it (symbol_is_token it sym.CloseBrace is) in
    let old_parts : plain old ≡ front ++ behind =
    ap (map spelled_of) (sym (take-append-drop old.end old.items.items)) ∙ map-append spelled_of (take old.end old.items.items) (drop old.end old.items.items) in
    let same : plain new ≡ (front ++ (sign sym.Comma ∷ behind)) ++ it ∷ [] =
    ap (map spelled_of) items ∙ map-append spelled_of (insert old.items.items old.end comma) (brace ∷ [])
    ∙ ap (λ xs. xs ++ it ∷ []) (map-append spelled_of (take old.end old.items.items) (comma ∷ drop old.end old.items.items) ∙ ap (λ x. front ++ (x ∷ behind)) spelled) in
    let old_tokens : tokens (plain old) ≡ tokens front = ap tokens old_parts ∙ tokens_append front behind ∙ ap (λ xs. tokens front ++ xs) so_far.behind ∙ append-nil _ in
    let new_tokens : tokens (plain new) ≡ tokens (plain old) ++ (sign sym.Comma ∷ it ∷ []) =
    ap tokens same ∙ tokens_append (front ++ (sign sym.Comma ∷ behind)) (it ∷ []) ∙ in_both (λ xs ys. xs ++ ys) (tokens_append front (sign sym.Comma ∷ behind)) token
    ∙ ap (λ xs. (tokens front ++ (sign sym.Comma ∷ xs)) ++ it ∷ []) so_far.behind ∙ append_assoc (tokens front) (sign sym.Comma ∷ []) (it ∷ [])
    ∙ ap (λ xs. xs ++ (sign sym.Comma ∷ it ∷ [])) (sym old_tokens) in
    let new_comments : comments (plain new) ≡ comments (plain old) ++ comments (it ∷ []) =
    ap comments same ∙ comments_append (front ++ (sign sym.Comma ∷ behind)) (it ∷ [])
    ∙ ap (λ xs. xs ++ comments (it ∷ [])) (comments_append front (sign sym.Comma ∷ behind) ∙ sym (ap comments old_parts ∙ comments_append front behind)) in
    goes_on_edit old new (it ∷ []) (comma_added it) is token new_tokens new_comments
    (λ here there.
    let parts = all_parts _ front behind (subst EachSpelled old_parts here) in
    subst EachSpelled (sym same) (all_append _ (front ++ (sign sym.Comma ∷ behind)) (it ∷ [])
    (all_append _ front (sign sym.Comma ∷ behind) parts.0 (refl, parts.1)) there))
    end all so_far

-- what follows from two things that hold on success, so does on success
pub on_both : {A E P Q R : Type 0} (result : Result A E) → OnOk result P → OnOk result Q → (P → Q → R) → OnOk result R
on_both (Ok it) one other so = so one other
on_both (Err it) one other so = tt
