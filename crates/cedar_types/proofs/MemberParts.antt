-- What an answer of membership says of elements, of attributes and of uids.
use Rattle.std.proofs.Common.{Bor, refl, ◌≡◌, ℕ, ◌<◌, ◌+◌, Bool, false, not, List, length, get_or, drop, Ok, Option, Some, None, ap, sym, ◌∙◌}
use Rattle.std.specs.BTreeMap.{BTreeMap, get_by_text}
use Rattle.std.specs.Bool.{Decides}
use Rattle.std.specs.Option.{option_map, option_copied}
use Rattle.std.specs.declared.alloc.Global.{Global}
use Rattle.std.specs.declared.rc.Rc.{Rc}
use Rattle.std.specs.declared.string.String.{String}
use Rattle.cedar_ast.proofs.TreeLemmas.{drop-at, entry_at-entries, not-Decides}
use Rattle.cedar_types.proofs.MembershipLemmas.{IsBoth, IsMembershipSoFar, IsMembershipSoFar-more, IsMembership-test}
use Rattle.cedar_types.specs.Words.{Answer, Attributes, EachTree, EntityKind, Entries, EntryFits, Extensions, Fields, FieldsMeet, Gives, Has, HasFieldsBy, HasUid, IsMembership, MayGive, MayHave, Meets, Name, NamesListed, OpenTag, PlainUid, RestrictedExpr, SomeEntry, SomeTree, Text, Tree, Trees, Ty, «Type», attribute_step, attributes_step, entries_of, entry_at, entry_names, extension_of, field, field_names, fields_of, fold-roll-Type, is_open, kind_ty, map_value, plain_name, record_of, roll-Type, set_of, tree_of, trees_of, ty_of, type_step, uid_value}
use Rattle.cedar_types.specs.declared.types.Type.TheOpen as layer
use Rattle.cedar_types.specs.declared.types.Type.TheVariants as type

-- an answer is right of whether a value has a type
abbrev pub IsMembershipFor : Extensions → Tree → Ty → Answer → Type 0
IsMembershipFor extensions value ty answer =
    IsMembership answer (Has extensions value ty) (MayHave extensions value ty) (λ unknown. Meets extensions unknown value ty)

-- an answer is right of whether some values by name have the types of attributes
abbrev pub IsMembershipForFields : Extensions → Entries → Fields → Answer → Type 0
IsMembershipForFields extensions values fields answer =
    IsMembership answer (HasFieldsBy (Gives extensions) values fields) (HasFieldsBy (MayGive extensions) values fields)
    (λ unknown. FieldsMeet extensions unknown values fields)

-- the answer so far, where the values that are left are those
abbrev pub ElementsSoFar : Extensions → Ty → Trees → Trees → Answer → Type 0
ElementsSoFar extensions ty all rest so_far =
    IsMembershipSoFar so_far (EachTree (λ value. Has extensions value ty) rest)
    (EachTree (λ value. MayHave extensions value ty) rest)
    (λ unknown. SomeTree (λ value. Meets extensions unknown value ty) rest)
    (EachTree (λ value. Has extensions value ty) all) (EachTree (λ value. MayHave extensions value ty) all)
    (λ unknown. SomeTree (λ value. Meets extensions unknown value ty) all)

-- the answer so far, where the attributes that are left are those
abbrev pub FieldsSoFar : Extensions → Entries → Fields → Fields → Answer → Type 0
FieldsSoFar extensions values all rest so_far =
    IsMembershipSoFar so_far (HasFieldsBy (Gives extensions) values rest) (HasFieldsBy (MayGive extensions) values rest)
    (λ unknown. FieldsMeet extensions unknown values rest) (HasFieldsBy (Gives extensions) values all)
    (HasFieldsBy (MayGive extensions) values all) (λ unknown. FieldsMeet extensions unknown values all)

-- one more element is answered
pub ElementsSoFar-more : (extensions : Extensions) (ty : Ty) (values : List RestrictedExpr) (i : ℕ) (x : RestrictedExpr)
    (so_far b next : Answer) → i < length values → x ≡ get_or values i x → IsBoth so_far b next
    → IsMembershipFor extensions (tree_of x) ty b → ElementsSoFar extensions ty (trees_of values)
    (trees_of (drop i values)) so_far → ElementsSoFar extensions ty (trees_of values) (trees_of (drop (i + 1) values)) next
ElementsSoFar-more extensions ty values i x so_far b next below is both right before =
    IsMembershipSoFar-more so_far b next _ _ _ _ _ _ _ _ _ both (rw (drop-at values i x below is) at before) right

-- an answer is right of whether what is found at a name is as it has to be
abbrev pub IsMembershipForEntry : Extensions → Option Tree → Bool × Ty → Answer → Type 0
IsMembershipForEntry extensions found attribute answer =
    IsMembership answer (EntryFits (λ value. Has extensions value attribute.1) attribute.0 found)
    (EntryFits (λ value. MayHave extensions value attribute.1) attribute.0 found)
    (λ unknown. SomeEntry (λ value. Meets extensions unknown value attribute.1) found)

-- one more attribute is answered
pub FieldsSoFar-more : (extensions : Extensions) (values : Entries) (all rest : Fields) (name : Text) (attribute : Bool
    × Ty) (so_far b next : Answer) → IsBoth so_far b next → IsMembershipForEntry extensions
    (entry_at name values) attribute b → FieldsSoFar extensions values all
    (field name attribute.0 attribute.1 rest) so_far → FieldsSoFar extensions values all rest next
FieldsSoFar-more extensions values all rest name attribute so_far b next both right before =
    IsMembershipSoFar-more so_far b next _ _ _ _ _ _ _ _ _ both before right

-- an answer for the value that is found at a name
pub IsMembershipForEntry-Some : (extensions : Extensions) (name : Text)
    (values : BTreeMap (String Global) RestrictedExpr) (attribute : Bool × Ty) (got : Option (Bor RestrictedExpr))
    (value : Bor RestrictedExpr) (answer : Answer) → option_copied got ≡ get_by_text values name → got ≡ Some value
    → IsMembershipFor extensions (tree_of value.now) attribute.1 answer
    → IsMembershipForEntry extensions (entry_at name (entries_of values)) attribute answer
IsMembershipForEntry-Some extensions name values attribute got value answer found is right =
    rw (entry_at-entries name values.entries ∙ ap (option_map tree_of) (sym found ∙ ap option_copied is)) right

-- an answer where nothing is found at a name
pub IsMembershipForEntry-None : (extensions : Extensions) (name : Text)
    (values : BTreeMap (String Global) RestrictedExpr) (attribute : Bool × Ty) (got : Option (Bor RestrictedExpr))
    (answer : Answer) → option_copied got ≡ get_by_text values name → got ≡ None → answer ≡ Ok (not attribute.0)
    → IsMembershipForEntry extensions (entry_at name (entries_of values)) attribute answer
IsMembershipForEntry-None extensions name values attribute got answer found is missing =
    rw (entry_at-entries name values.entries ∙ ap (option_map tree_of) (sym found ∙ ap option_copied is), missing) (IsMembership-test (not attribute.0) _ _ (not-Decides attribute.0 (not attribute.0) refl))

-- a set type stands for the set of what its element type stands for
pub ty_of-set : (element : Rc «Type» Global) → ty_of (type.Set (Some element)) ≡ set_of (ty_of element.value)
ty_of-set element =
    ap ty_of (sym (type.rolls-Set (Some element)))
    ∙ (let e : ty_of (roll-Type (layer.Set (Some element))) ≡ set_of (ty_of element.value) =
    fold-roll-Type Ty (Bool × Ty) Fields type_step attribute_step attributes_step (layer.Set (Some element)) in
    e)

-- a record type stands for what its attributes stand for
pub ty_of-record : (attrs : Attributes) (openness : OpenTag) → ty_of (type.Record attrs openness) ≡ record_of (fields_of attrs) openness
ty_of-record attrs openness =
    ap ty_of (sym (type.rolls-Record attrs openness))
    ∙ (let e : ty_of (roll-Type (layer.Record attrs openness)) ≡ record_of (fields_of attrs) openness =
    fold-roll-Type Ty (Bool × Ty) Fields type_step attribute_step attributes_step (layer.Record attrs openness) in
    e)

-- an entity type stands for what its kind does
pub ty_of-entity : (of : EntityKind) → ty_of (type.Entity of) ≡ kind_ty of
ty_of-entity of =
    ap ty_of (sym (type.rolls-Entity of)) ∙ (let e : ty_of (roll-Type (layer.Entity of)) ≡ kind_ty of =
    fold-roll-Type Ty (Bool × Ty) Fields type_step attribute_step attributes_step (layer.Entity of) in
    e)

-- an extension type stands for the one of the same plain name
pub ty_of-extension : (name : Name) → ty_of (type.ExtensionType name) ≡ extension_of (plain_name name)
ty_of-extension name =
    ap ty_of (sym (type.rolls-ExtensionType name))
    ∙ (let e : ty_of (roll-Type (layer.ExtensionType name)) ≡ extension_of (plain_name name) =
    fold-roll-Type Ty (Bool × Ty) Fields type_step attribute_step attributes_step (layer.ExtensionType name) in
    e)

-- an answer is right of what a value and a type stand for
pub IsMembershipFor-at : (extensions : Extensions) (value tree : Tree) (of ty : Ty) (answer : Answer) → value ≡ tree
    → of ≡ ty → IsMembershipFor extensions tree ty answer → IsMembershipFor extensions value of answer
IsMembershipFor-at extensions value tree of ty answer same_value same_type right = rw (same_value, same_type) right

-- the test of a uid decides whether it has the type of a kind
pub IsMembershipFor-uid : (extensions : Extensions) (uid : PlainUid) (of : EntityKind) (b : Bool)
    → Decides b (HasUid uid (kind_ty of)) → IsMembershipFor extensions (uid_value uid) (kind_ty of) (Ok b)
IsMembershipFor-uid extensions uid of b decides = IsMembership-test b _ _ decides

-- where no attribute is unlisted, the answer for the listed ones is that for the record
pub IsMembershipFor-listed : (extensions : Extensions) (values : Entries) (fields : Fields) (openness : OpenTag)
    (answer : Answer) → NamesListed (is_open openness) (entry_names values) (field_names fields)
    → IsMembershipForFields extensions values fields answer
    → IsMembershipFor extensions (map_value values) (record_of fields openness) answer
IsMembershipFor-listed extensions values fields openness answer listed right = record {
  yes = (λ e. (listed, right.yes.0 e), λ both. right.yes.1 both.1);
  no = (λ e may. right.no.0 e may.1, λ never. right.no.1 (λ may. never (listed, may)));
  fault = right.fault;
}

-- where some attribute is unlisted, the record can't have the type
pub IsMembershipFor-unlisted : (extensions : Extensions) (values : Entries) (fields : Fields) (openness : OpenTag)
    → ¬ NamesListed (is_open openness) (entry_names values) (field_names fields)
    → IsMembershipFor extensions (map_value values) (record_of fields openness) (Ok false)
IsMembershipFor-unlisted extensions values fields openness unlisted = record {
  yes = (λ e. absurd cc, λ both. absurd (unlisted both.0));
  no = (λ _ may. unlisted may.0, λ _. refl);
  fault = tt;
}
