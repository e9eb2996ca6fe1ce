-- Types that are written in a namespace are elaborated again.
use Rattle.std.proofs.Common.{◌≡◌, false, List, [], ◌∷◌, Option, Some, None, ap, refl, inl, inr, arith}
use Rattle.std.specs.Option.{option_map, option_zip}
use Rattle.cedar_schema_laws.specs.Words.{AnyBool, ClosedAttributes, ConvertedTypesElaborate, Defined, ElaboratesTo, Expr, False, Fields, FieldsMentionEntity, IsNamedAgain, Members, MembersElaborateTo, MentionsEntity, OpenAttributes, PlainName, Text, True, Ty, any_entity, any_set, as_entity, as_extension, as_long, as_member, as_no_member, as_record, as_set, as_text, as_truth, end, extension_expr, extension_of, extension_written, field, fields_written, full_name, long, long_expr, member, named, never, no_member, record_expr, record_of, set_expr, set_of, text, text_expr, truth, truth_expr, type_written, union_of}

-- what a function gives of something it gives of what is there
pub map_some : {A B : Type 0} (f : A → B) (a : Option A) (b : B) → option_map f a ≡ Some b → (x : A) × (a ≡ Some x) × (f x ≡ b)
map_some f None b is = cc
map_some f (Some x) b is = let same : f x ≡ b = cc in (x, refl, same)

-- a pair is of two that are there
pub zip_some : {A B : Type 0} (a : Option A) (b : Option B) (both : A × B) → option_zip a b ≡ Some both
    → (a ≡ Some both.0) × (b ≡ Some both.1)
zip_some None None both is = cc
zip_some None (Some y) both is = cc
zip_some (Some x) None both is = cc
zip_some {A} {B} (Some x) (Some y) both is =
    let same : (x, y) ≡ both = cc in (ap (λ (p : A × B). Some p.0) same, ap (λ (p : A × B). Some p.1) same)

module _ (defined : Defined) (namespace : Option PlainName) where
  -- an extension type
  extension_back : (base : Text) (path : List Text) (expr : Expr) → extension_written base path ≡ Some expr
      → ElaboratesTo defined expr (extension_of (record { base = base; path = path }))
  extension_back base [] expr is =
      let same : extension_expr base ≡ expr = cc in
      rw (← same) (as_extension base)
  extension_back base (part ∷ path) expr is = cc

  mutual
    -- a type of which each name names its entity type again
    pub type_back : (ty : Ty) (expr : Expr) → type_written namespace ty ≡ Some expr
        → ((name : PlainName) → MentionsEntity ty name → IsNamedAgain defined namespace name) → ElaboratesTo defined expr ty
    type_back never expr is again = cc
    type_back (truth AnyBool) expr is again =
        let same : truth_expr ≡ expr = cc in
        rw (← same) as_truth
    type_back (truth True) expr is again = cc
    type_back (truth False) expr is again = cc
    type_back long expr is again =
        let same : long_expr ≡ expr = cc in
        rw (← same) as_long
    type_back text expr is again =
        let same : text_expr ≡ expr = cc in
        rw (← same) as_text
    type_back any_entity expr is again = cc
    type_back (union_of []) expr is again = cc
    type_back (union_of (name ∷ [])) expr is again =
        let same : named (full_name namespace name) ≡ expr = cc in
        let named_again = again name (0, omega arith, refl) in
        rw (← same) (as_entity (full_name namespace name) name named_again.resolves (tt, named_again.there) (λ body common. common.0))
    type_back (union_of (name ∷ other ∷ rest)) expr is again = cc
    type_back any_set expr is again = cc
    type_back (set_of ty) expr is again =
        let of = map_some set_expr (type_written namespace ty) expr is in
        rw of.2 at (as_set (type_back ty of.0 of.1 again))
    type_back (record_of fields ClosedAttributes) expr is again =
        let of = map_some (λ members. record_expr members false) (fields_written namespace fields) expr is in
        rw (← of.2) (as_record (fields_back fields of.0 of.1 again))
    type_back (record_of fields OpenAttributes) expr is again = cc
    type_back (extension_of name) expr is again = extension_back name.base name.path expr is

    -- the same of attributes
    pub fields_back : (fields : Fields) (members : Members) → fields_written namespace fields ≡ Some members
        → ((name : PlainName) → FieldsMentionEntity fields name → IsNamedAgain defined namespace name)
        → MembersElaborateTo defined members fields
    fields_back end members is again =
        let same : no_member ≡ members = cc in
        rw (← same) as_no_member
    fields_back (field name required ty rest) members is again =
        let make : Expr × Members → Members = λ both. member name required both.0 both.1 in
        let of = map_some make (option_zip (type_written namespace ty) (fields_written namespace rest)) members is in
        let both = zip_some (type_written namespace ty) (fields_written namespace rest) of.0 of.1 in
        rw (← of.2) (as_member (type_back ty of.0.0 both.0 (λ it mentions. again it (inl mentions)))
        (fields_back rest of.0.1 both.1 (λ it mentions. again it (inr mentions))))

-- so types come back
pub converted_types_elaborate : ConvertedTypesElaborate
converted_types_elaborate defined namespace ty expr is again = type_back defined namespace ty expr is again
