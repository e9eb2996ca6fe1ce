-- Namespaces that are put into a map, one after another.
use Rattle.std.proofs.Common.{◌≡◌, ◌++◌, Bool, true, false, cond, List, [], ◌∷◌, Option, None, Some, refl, ap, sym, ◌∙◌}
use Rattle.std.specs.BTreeMap.{BTreeMap, get, get_by, is_at}
use Rattle.std.specs.Bool.{one_answer}
use Rattle.std.specs.Option.{option_map, option_or}
use Rattle.std.specs.Ordering.{is_eq}
use Rattle.cedar_ast.proofs.Names.{internal_name_ord-name_cmp}
use Rattle.cedar_ast.specs.contracts.internal_name.InternalNameOrd.TheImpl as order
use Rattle.cedar_schema.specs.Words.{DefinedNamespace, HoldsNamespaces, InternalName, LocatedNamespace, PlainName, last_defined, name_cmp, name_of, printed_namespace, shown_namespace}
use Rattle.cedar_schema_semantics.proofs.OccurrenceLemmas.{name_test}

-- a definition behind the others is the last, if it has the name
last_defined-more : (name : PlainName) (defined : List DefinedNamespace) (at : DefinedNamespace)
    → last_defined name (defined ++ at ∷ []) ≡ cond (is_eq (name_cmp name at.name)) (Some at) (last_defined name defined)
last_defined-more name [] at = refl
last_defined-more name (first ∷ rest) at =
    ap (λ o. option_or o (cond (is_eq (name_cmp name first.name)) (Some first) None)) (last_defined-more name rest at)
    ∙ elim (is_eq (name_cmp name at.name)) as
    (λ b. option_or (cond b (Some at) (last_defined name rest)) (cond (is_eq (name_cmp name first.name)) (Some first) None)
    ≡ cond b (Some at) (option_or (last_defined name rest) (cond (is_eq (name_cmp name first.name)) (Some first) None)))
    [ true ↦ refl | false ↦ refl ]

-- what is shown of a value that stands where a test passes, or of another
map-cond : {A B : Type 0} (f : A → B) (b : Bool) (x : A) (other : Option A)
    → option_map f (cond b (Some x) other) ≡ cond b (Some (f x)) (option_map f other)
map-cond f true x other = refl
map-cond f false x other = refl

-- the test by one name of another is that of the other by the one
flips : (a b : PlainName) → is_eq (name_cmp a b) ≡ is_eq (name_cmp b a)
flips a b =
    one_answer (is_eq (name_cmp a b)) (is_eq (name_cmp b a)) (name_test a b)
    (λ tie. sym ((name_test b a).0 tie), λ same. (name_test b a).1 (sym same))

-- a map is looked up by what names stand for
looked_up : (namespaces : BTreeMap InternalName LocatedNamespace) (name : InternalName)
    → get ((order.ghosts).cmp) namespaces name ≡ get_by (λ key. name_cmp (name_of name) (name_of key)) namespaces
looked_up namespaces name = ap (λ compare. get_by compare namespaces) (λ i key. internal_name_ord-name_cmp name key i)

-- where a namespace is put under its name, the map holds also its definition
pub namespace_put : (old new : BTreeMap InternalName LocatedNamespace) (key : InternalName) (value : LocatedNamespace)
    (defined : List DefinedNamespace) (at : DefinedNamespace) → name_of key ≡ at.name → shown_namespace value ≡ printed_namespace at
    → ((name : InternalName) → get ((order.ghosts).cmp) new name
    ≡ cond (is_at ((order.ghosts).cmp key) name) (Some value) (get ((order.ghosts).cmp) old name))
    → HoldsNamespaces defined old → HoldsNamespaces (defined ++ at ∷ []) new
namespace_put old new key value defined at own shows puts so_far name =
    let test : is_at ((order.ghosts).cmp key) name ≡ is_eq (name_cmp (name_of name) at.name) =
    ap is_eq (internal_name_ord-name_cmp key name)
    ∙ (flips (name_of key) (name_of name) ∙ ap (λ each. is_eq (name_cmp (name_of name) each)) own) in
    let before = ap (option_map shown_namespace) (looked_up old name) ∙ so_far name in
    ap (option_map shown_namespace) (sym (looked_up new name) ∙ puts name)
    ∙ (map-cond shown_namespace (is_at ((order.ghosts).cmp key) name) value (get ((order.ghosts).cmp) old name)
    ∙ ((λ i. cond (test i) (Some (shows i)) (before i))
    ∙ (sym (map-cond printed_namespace (is_eq (name_cmp (name_of name) at.name)) at (last_defined (name_of name) defined))
    ∙ ap (option_map printed_namespace) (sym (last_defined-more (name_of name) defined at)))))
