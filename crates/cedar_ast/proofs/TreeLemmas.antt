-- Value trees, and arguments that fit.
use Rattle.std.proofs.Common.{◌≡◌, ◌⊎◌, inl, inr, Bool, true, false, refl, sym, ap, ◌∙◌, List, [], ◌∷◌, map, Option, Some, None, if◌then◌else◌, string_bytes, cond, Vec, Contains, arith, Bor, Box, ◌==◌, not, ℕ, suc, ◌+◌, ◌<◌, length, get_or, drop, drop-cons, add-one}
use Rattle.std.proofs.lemmas.Bool.Decides.{Decides-eqb}
use Rattle.std.proofs.lemmas.Map.Text.{is_eq-slice_cmp}
use Rattle.std.proofs.lemmas.Simd.{map-map}
use Rattle.std.proofs.lemmas.Slice.Eq.{bytes_eq-Decides}
use Rattle.std.specs.BTreeMap.{BTreeMap, is_at, get_by_text}
use Rattle.std.specs.Bool.{Decides}
use Rattle.std.specs.Map.{lookup}
use Rattle.std.specs.Option.{option_map, option_copied, is_some}
use Rattle.std.specs.Str.{bytes_eq}
use Rattle.std.specs.declared.alloc.Global.{Global}
use Rattle.std.specs.declared.string.String.{String}
use Rattle.cedar_ast.proofs.Inclusion.{chosen}
use Rattle.cedar_ast.proofs.Lists.{Contains-cons, Contains-cons_cases}
use Rattle.cedar_ast.specs.Words.{ArgumentsFit, CoreAttributeType, CoreSchemaType, CoreTy, EntityUID, EntryFits, Extensions, Name, RestrictedExpr, Text, Tree, Trees, call_value, core_attribute_of, core_attribute_step, core_empty_set, core_extension, core_fields_from, core_fields_of, core_names, core_record, core_set, core_step, core_ty_of, entries_from, entries_of, entry_at, entry_names, fold-roll-CoreSchemaType, fold-roll-RestrictedExpr, fold_out-CoreAttributeType, map_value, no_tree, plain_name, roll-CoreSchemaType, roll-RestrictedExpr, set_value, text_cmp, tree, tree_of, tree_step, trees_of, uid_of, uid_value}
use Rattle.cedar_ast.specs.declared.core_schema_type.CoreSchemaType.TheOpen as core_layer
use Rattle.cedar_ast.specs.declared.core_schema_type.CoreSchemaType.TheVariants as core
use Rattle.cedar_ast.specs.declared.value.RestrictedExpr.TheOpen as layer
use Rattle.cedar_ast.specs.declared.value.RestrictedExpr.TheVariants as expr

-- a set stands for the set of what its elements stand for
pub tree_of-set : (values : Vec RestrictedExpr Global) → tree_of (expr.Set values) ≡ set_value (trees_of values.items)
tree_of-set values = ap tree_of (sym (expr.rolls-Set values))
    ∙ (let e : tree_of (roll-RestrictedExpr (layer.Set values)) ≡ set_value (trees_of values.items) =
    fold-roll-RestrictedExpr Tree tree_step (layer.Set values) in e)

-- a record stands for what its attributes' values stand for, by name
pub tree_of-record : (values : BTreeMap (String Global) RestrictedExpr) → tree_of (expr.Record values) ≡ map_value (entries_of values)
tree_of-record values = ap tree_of (sym (expr.rolls-Record values))
    ∙ (let e : tree_of (roll-RestrictedExpr (layer.Record values)) ≡ map_value (entries_of values) =
    fold-roll-RestrictedExpr Tree tree_step (layer.Record values)
    ∙ ap (λ entries. map_value (entries_from entries)) (map-map _ _ values.entries) in e)

-- a reference to an entity stands for the plain uid
pub tree_of-uid : (uid : EntityUID) → tree_of (expr.EntityUid uid) ≡ uid_value (uid_of uid)
tree_of-uid uid =
    ap tree_of (sym (expr.rolls-EntityUid uid))
    ∙ (let e : tree_of (roll-RestrictedExpr (layer.EntityUid uid)) ≡ uid_value (uid_of uid) =
    fold-roll-RestrictedExpr Tree tree_step (layer.EntityUid uid) in
    e)

-- a call stands for the call of the function's plain name on what its arguments stand for
pub tree_of-call : (function : Name) (args : Vec RestrictedExpr Global)
    → tree_of (expr.ExtensionCall function args) ≡ call_value (plain_name function) (trees_of args.items)
tree_of-call function args =
    ap tree_of (sym (expr.rolls-ExtensionCall function args))
    ∙ (let e : tree_of (roll-RestrictedExpr (layer.ExtensionCall function args))
    ≡ call_value (plain_name function) (trees_of args.items) =
    fold-roll-RestrictedExpr Tree tree_step (layer.ExtensionCall function args) in
    e)

-- a set type stands for the set of what its element type stands for
pub core_ty_of-set : (element : Box CoreSchemaType Global) → core_ty_of (core.Set element) ≡ core_set (core_ty_of element.value)
core_ty_of-set element =
    ap core_ty_of (sym (core.rolls-Set element))
    ∙ (let e : core_ty_of (roll-CoreSchemaType (core_layer.Set element)) ≡ core_set (core_ty_of element.value) =
    fold-roll-CoreSchemaType CoreTy (Bool × CoreTy) core_step core_attribute_step (core_layer.Set element) in
    e)

-- a record type stands for what its attributes stand for
pub core_ty_of-record : (attrs : BTreeMap (String Global) CoreAttributeType) (open_attrs : Bool)
    → core_ty_of (core.Record attrs open_attrs) ≡ core_record (core_fields_of attrs) open_attrs
core_ty_of-record attrs open_attrs =
    ap core_ty_of (sym (core.rolls-Record attrs open_attrs))
    ∙ (let e : core_ty_of (roll-CoreSchemaType (core_layer.Record attrs open_attrs))
    ≡ core_record (core_fields_of attrs) open_attrs = fold-roll-CoreSchemaType CoreTy (Bool
    × CoreTy) core_step core_attribute_step (core_layer.Record attrs open_attrs)
    ∙ ap (λ entries. core_record (core_fields_from entries) open_attrs) (map-map _ _ attrs.entries) in
    e)

-- an attribute of a core type stands for its flag and what its type stands for
pub core_attribute_of-parts : (attribute : CoreAttributeType)
    → core_attribute_of attribute ≡ (attribute.required, core_ty_of attribute.attr_type)
core_attribute_of-parts attribute = fold_out-CoreAttributeType CoreTy (Bool × CoreTy) core_step core_attribute_step attribute

-- an extension type stands for the extension type of the same plain name
pub core_ty_of-extension : (name : Name) → core_ty_of (core.Extension name) ≡ core_extension (plain_name name)
core_ty_of-extension name =
    ap core_ty_of (sym (core.rolls-Extension name))
    ∙ (let e : core_ty_of (roll-CoreSchemaType (core_layer.Extension name)) ≡ core_extension (plain_name name) =
    fold-roll-CoreSchemaType CoreTy (Bool × CoreTy) core_step core_attribute_step (core_layer.Extension name) in
    e)

-- the type of the empty set stands for itself
pub core_ty_of-empty_set : core_ty_of core.EmptySet ≡ core_empty_set
core_ty_of-empty_set =
    ap core_ty_of (sym core.rolls-EmptySet)
    ∙ (let e : core_ty_of (roll-CoreSchemaType core_layer.EmptySet) ≡ core_empty_set =
    fold-roll-CoreSchemaType CoreTy (Bool × CoreTy) core_step core_attribute_step core_layer.EmptySet in
    e)

-- whether a list is empty decides whether it stands for no trees
pub no_tree-Decides : (exprs : List RestrictedExpr) → Decides (length exprs == 0) (trees_of exprs ≡ no_tree)
no_tree-Decides [] = (λ _. refl, λ _. refl)
no_tree-Decides (first ∷ rest) = (λ e. absurd (omega (arith, (Decides-eqb (length (first ∷ rest)) 0).0 e)), λ e. absurd cc)

-- a choice between a value and what an option stands for is what the choice of the two stands for
option_map-chosen : (b : Bool) (x : RestrictedExpr) (m : Option Tree) (n : Option RestrictedExpr)
    → m ≡ option_map tree_of n → (if b then Some (tree_of x) else m) ≡ option_map tree_of (cond b (Some x) n)
option_map-chosen true x m n h = refl
option_map-chosen false x m n h = h

-- the value at a name is what the entry of the name stands for
pub entry_at-entries : (name : Text) (entries : List (String Global × RestrictedExpr))
    → entry_at name (entries_from (map (λ entry. (string_bytes entry.0, tree_of entry.1)) entries))
    ≡ option_map tree_of (lookup (is_at (λ k. text_cmp name (string_bytes k))) entries)
entry_at-entries name [] = refl
entry_at-entries name (first ∷ rest) =
    rw (is_eq-slice_cmp name (string_bytes first.0))
    (option_map-chosen (bytes_eq name (string_bytes first.0)) first.1 _ _ (entry_at-entries name rest))

-- the names of the entries are the keys
pub entry_names-entries : (entries : List (String Global × RestrictedExpr))
    → entry_names (entries_from (map (λ entry. (string_bytes entry.0, tree_of entry.1)) entries))
    ≡ map (λ entry. string_bytes entry.0) entries
entry_names-entries [] = refl
entry_names-entries (first ∷ rest) = ap (λ names. string_bytes first.0 ∷ names) (entry_names-entries rest)

-- whether a name is found among keys decides whether it is one of them
pub lookup-names : {X : Type 0} (name : Text) (entries : List (String Global × X))
    → Decides (is_some (lookup (is_at (λ k. text_cmp name (string_bytes k))) entries))
    (Contains (map (λ entry. string_bytes entry.0) entries) name)
lookup-names name [] = (λ e. absurd cc, λ among. absurd (omega (arith, among.1)))
lookup-names name (first ∷ rest) =
    let key = string_bytes first.0 in
    let same = bytes_eq-Decides name key in
    let either : Decides (is_some (if bytes_eq name key then Some first.1 else lookup
    (is_at (λ k. text_cmp name (string_bytes k))) rest)) ((name ≡ key) ⊎ Contains (map (λ entry. string_bytes entry.0) rest) name) =
    chosen (bytes_eq name key) first.1 _ (name ≡ key) (Contains (map (λ entry. string_bytes entry.0) rest) name) same
    (lookup-names name rest) in
    rw (is_eq-slice_cmp name key) (
      λ e. Contains-cons key _ name (elim (either.0 e) [ inl s ↦ inl (sym s) | inr there ↦ inr there ]),
      λ among. either.1 (elim (Contains-cons_cases key _ name among) [ inl s ↦ inl (sym s) | inr there ↦ inr there ]),
    )

-- the names of a core type's attributes are the keys
pub core_names-entries : (entries : List (String Global × CoreAttributeType))
    → core_names (core_fields_from (map (λ entry. (string_bytes entry.0, core_attribute_of entry.1)) entries))
    ≡ map (λ entry. string_bytes entry.0) entries
core_names-entries [] = refl
core_names-entries (first ∷ rest) = ap (λ names. string_bytes first.0 ∷ names) (core_names-entries rest)

-- whether an attribute of that name is found decides whether the name is listed
pub listed-Decides : (name : Text) (attrs : BTreeMap (String Global) CoreAttributeType)
    → Decides (is_some (get_by_text attrs name)) (Contains (core_names (core_fields_of attrs)) name)
listed-Decides name attrs = rw (core_names-entries attrs.entries) (lookup-names name attrs.entries)

-- from a place on, a list is the element there and what follows
pub drop-at : {X : Type 0} (xs : List X) (i : ℕ) (x : X) → i < length xs → x ≡ get_or xs i x → drop i xs ≡ x ∷ drop (i + 1) xs
drop-at xs i x below is = rw (add-one) (drop-cons xs i x below ∙ ap (λ y. y ∷ drop (suc i) xs) (sym is))

-- a test decides whether what is found at a name is as it has to be
pub EntryFits-Some : (P : Tree → Type 0) (required : Bool) (name : Text)
    (values : BTreeMap (String Global) RestrictedExpr) (got : Option (Bor RestrictedExpr)) (value : Bor RestrictedExpr)
    (b : Bool) → option_copied got ≡ get_by_text values name → got ≡ Some value → Decides b (P (tree_of value.now))
    → Decides b (EntryFits P required (entry_at name (entries_of values)))
EntryFits-Some P required name values got value b found is decides =
    rw (entry_at-entries name values.entries ∙ ap (option_map tree_of) (sym found ∙ ap option_copied is)) decides

-- a test decides whether a name may be missing
pub EntryFits-None : (P : Tree → Type 0) (required : Bool) (name : Text)
    (values : BTreeMap (String Global) RestrictedExpr) (got : Option (Bor RestrictedExpr)) (b : Bool)
    → option_copied got ≡ get_by_text values name → got ≡ None → Decides b (required ≡ false)
    → Decides b (EntryFits P required (entry_at name (entries_of values)))
EntryFits-None P required name values got b found is decides =
    rw (entry_at-entries name values.entries ∙ ap (option_map tree_of) (sym found ∙ ap option_copied is)) decides

-- the opposite of a flag decides whether it is false
pub not-Decides : (required b : Bool) → b ≡ not required → Decides b (required ≡ false)
not-Decides true b is = (λ e. absurd cc, λ e. absurd cc)
not-Decides false b is = (λ e. refl, λ e. is)

-- no arguments fit any types
pub ArgumentsFit-none : (extensions : Extensions) (types : List CoreTy) (args : List RestrictedExpr) → length args ≡ 0
    → ArgumentsFit extensions (trees_of args) types
ArgumentsFit-none extensions types [] none = tt
ArgumentsFit-none extensions types (first ∷ rest) none = absurd (omega (arith, none))

-- any arguments fit no types
pub ArgumentsFit-no_types : (extensions : Extensions) (types : List CoreSchemaType) (args : Trees) → length types ≡ 0
    → ArgumentsFit extensions args (map core_ty_of types)
ArgumentsFit-no_types extensions [] no_tree none = tt
ArgumentsFit-no_types extensions [] (tree first rest) none = tt
ArgumentsFit-no_types extensions (first ∷ rest) args none = absurd (omega (arith, none))
