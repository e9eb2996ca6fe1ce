-- Types that are listed one after another.
use Rattle.std.proofs.Common.{◌≡◌, Option, Some, subst, ◌<◌, ◌+◌, ◌++◌, ℕ, List, [], ◌∷◌, length, get_or, map, take, ap, sym, ◌∙◌, append_assoc}
use Rattle.std.proofs.lemmas.List.{append-nil, map-append, take_more}
use Rattle.std.specs.List.{flat_map}
use Rattle.std.specs.Prelude.{slice_get}
use Rattle.cedar_ast.specs.declared.internal_name.InternalName.{InternalName}
use Rattle.cedar_elaboration.proofs.IndexLemmas.{item_at_index, items_more, slice_get-front}
use Rattle.cedar_elaboration.proofs.OrderLemmas.{HoldsPairwise-push}
use Rattle.cedar_schema_ast.specs.declared.json_schema.type_of.Type.{«Type»}
use Rattle.cedar_written_out.proofs.MeasureLemmas.{Knows-each}
use Rattle.cedar_written_out.specs.Listed.{common}
use Rattle.cedar_written_out.specs.Words.{Defined, Expr, IsListed, IsMeasured, Knows, KnowsAll, ListsAlso, Owner, PlainName, RawName, Written, common_expr, figure_at, name_of, raw_reference, type_expr, written_common, written_expr}
use Rattle.cedar_written_out.specs.declared.figure.Figure.{Figure}
use Rattle.cedar_written_out.specs.declared.listing.DeclaredType.TheVariants as variant
use Rattle.cedar_written_out.specs.declared.listing.Measured.{Measured}
use Rattle.cedar_written_out.specs.declared.measuring.FigureScope.{FigureScope}

-- what each item gives, of those up to the next
pub flat_more : {A B : Type 0} (f : A → List B) (xs : List A) (i : ℕ) (x : A) → i < length xs → x ≡ get_or xs i x
    → flat_map f (take (i + 1) xs) ≡ flat_map f (take i xs) ++ f x
flat_more f xs i x within is =
    ap (flat_map f) (take_more xs i x within ∙ ap (λ it. take i xs ++ it ∷ []) (sym is)) ∙ at_end (take i xs) x
  where
    at_end : (front : List _) (last : _) → flat_map f (front ++ last ∷ []) ≡ flat_map f front ++ f last
    at_end [] last = append-nil (f last)
    at_end (first ∷ front) last = ap (λ rest. f first ++ rest) (at_end front last) ∙ sym (append_assoc (f first) (flat_map f front) (f last))

module _ (defined : Defined) where
  -- nothing more is listed
  pub ListsAlso-none : (before : List Measured) → ListsAlso defined [] before before
  ListsAlso-none before listed are = rw (append-nil listed) are

  -- one more is listed
  pub ListsAlso-one : (it : Owner × Expr) (measured : Measured) (before after : List Measured) → after ≡ before ++ measured ∷ []
      → IsListed defined it measured → ListsAlso defined (it ∷ []) before after
  ListsAlso-one it measured before after is one listed are =
      rw is (HoldsPairwise-push (IsListed defined) listed before it measured are one)

  -- some are listed, and then others
  pub ListsAlso-both : (front back : List (Owner × Expr)) (before middle after : List Measured) → ListsAlso defined front before middle
      → ListsAlso defined back middle after → ListsAlso defined (front ++ back) before after
  ListsAlso-both front back before middle after one other listed are =
      rw (sym (append_assoc listed front back)) (other (listed ++ front) (one listed are))

  -- where these are some others, these are listed
  pub ListsAlso-as : (these others : List (Owner × Expr)) (before after : List Measured) → these ≡ others
      → ListsAlso defined others before after → ListsAlso defined these before after
  ListsAlso-as these others before after same lists = rw same lists

-- common types as they are written
abbrev Types : Type 0
Types = List (InternalName × Written («Type» RawName))

-- the common types up to an index are listed, and so is the one at it
pub lists_common : (defined : Defined) (scope : FigureScope) (declared : Types) (others : List (PlainName × Expr)) (index : ℕ)
    (item : InternalName × Written («Type» RawName)) (name : InternalName) (figure : Option Figure) (before middle after : List Measured)
    → KnowsAll defined scope → defined.common ≡ written_common RawName raw_reference declared ++ others
    → index < length declared → item ≡ get_or declared index item → name_of name ≡ name_of item.0
    → figure ≡ figure_at scope.figures.now index
    → after ≡ middle ++ record { declared = variant.CommonType name; figure = figure } ∷ []
    → ListsAlso defined (map common_expr (written_common RawName raw_reference (take index declared))) before middle
    → ListsAlso defined (map common_expr (written_common RawName raw_reference (take (index + 1) declared))) before after
lists_common defined scope declared others index item name figure before middle after knows are within is same_name same_figure pushed lists =
    let expr = written_expr RawName raw_reference item.1 in
    let it : PlainName × Expr = (name_of item.0, expr) in
    let more : map common_expr (written_common RawName raw_reference (take (index + 1) declared))
    ≡ map common_expr (written_common RawName raw_reference (take index declared)) ++ common_expr it ∷ [] =
    ap (map common_expr) (items_more RawName raw_reference declared index item within is)
    ∙ map-append common_expr (written_common RawName raw_reference (take index declared)) (it ∷ []) in
    let At : List (PlainName × Expr) → Type 0 = λ items. slice_get items index ≡ Some it in
    let stands = subst At (sym are) (slice_get-front (written_common RawName raw_reference declared) others index it
    (item_at_index RawName raw_reference declared index item within is)) in
    let Found : Option Figure → Type 0 = IsMeasured defined expr in
    ListsAlso-as defined _ _ before after more
    (ListsAlso-both defined (map common_expr (written_common RawName raw_reference (take index declared))) (common_expr it ∷ []) before middle after lists
    (ListsAlso-one defined (common_expr it) (record { declared = variant.CommonType name; figure = figure }) middle after pushed (record {
      owner = ap common same_name;
      figure = subst Found (sym same_figure) (knows.figures index it stands);
    })))

-- what an answer measures it measures wherever all is known
pub measured_all : (defined : Defined) (scope : FigureScope) (namespace other : Option PlainName) (ty : «Type» RawName) (found : Option Figure)
    → namespace ≡ other → KnowsAll defined scope
    → ((each : Defined) → Knows each scope (type_expr RawName (raw_reference namespace) ty)
    → IsMeasured each (type_expr RawName (raw_reference namespace) ty) found)
    → IsMeasured defined (type_expr RawName (raw_reference other) ty) found
measured_all defined scope namespace other ty found same knows measures =
    let P : Option PlainName → Type 0 = λ it. IsMeasured defined (type_expr RawName (raw_reference it) ty) found in
    subst P same (measures defined (Knows-each defined scope (type_expr RawName (raw_reference namespace) ty) knows))
