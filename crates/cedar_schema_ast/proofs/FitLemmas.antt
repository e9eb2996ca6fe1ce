-- The test of whether references fit their positions, entry by entry.
use Rattle.std.proofs.Common.{◌≡◌, Bool, List, ◌∷◌, map, ap, sym, ◌∙◌, string_bytes}
use Rattle.std.specs.declared.alloc.Global.{Global}
use Rattle.std.specs.declared.string.String.{String}
use Rattle.cedar_schema_ast.proofs.ExprLemmas.{record_type_expr-entries, flag_and_expr-parts}
use Rattle.cedar_schema_ast.specs.Words.{ConditionalName, Expr, Members, RecordType, ReferencesFit, TypeOfAttribute, conditional_attribute, conditional_expr, conditional_record, member, members_from, out-RecordType, out-TypeOfAttribute, own_reference, positional_attribute, positional_expr, positional_record, positional_reference, record_expr}

-- the entries of a record type
abbrev Entries : Type 0
Entries = List (String Global × TypeOfAttribute ConditionalName)

-- what entries stand for
abbrev own_members : Entries → Members
own_members entries = members_from (map (λ entry. (string_bytes entry.0, conditional_attribute entry.1)) entries)

-- what entries would stand for if each reference were of the kind that its position permits
abbrev positional_members : Entries → Members
positional_members entries = members_from (map (λ entry. (string_bytes entry.0, positional_attribute entry.1)) entries)

-- the references of the record type fit exactly where those of what is left of its entries do
pub record FitByRest (it : RecordType ConditionalName) (left : Entries) : Type 0 where
  pub suffices : positional_members left ≡ own_members left → positional_record it ≡ conditional_record it
  pub needed : positional_record it ≡ conditional_record it → positional_members left ≡ own_members left

-- records of the same attributes have them in common
same_members : (a b : Members) (x y : Bool) → record_expr a x ≡ record_expr b y → a ≡ b
same_members a b x y e = cc

-- before the first entry all of them decide
pub FitByRest-all : (it : RecordType ConditionalName) (left : Entries) → (out-RecordType ConditionalName it).attributes.entries ≡ left → FitByRest it left
FitByRest-all it left is =
    let all = (out-RecordType ConditionalName it).attributes.entries in
    let additional = (out-RecordType ConditionalName it).additional_attributes in
    let placed : positional_record it ≡ record_expr (positional_members left) additional =
    record_type_expr-entries ConditionalName positional_reference it ∙ ap (λ entries. record_expr (positional_members entries) additional) is in
    let own : conditional_record it ≡ record_expr (own_members left) additional =
    record_type_expr-entries ConditionalName own_reference it ∙ ap (λ entries. record_expr (own_members entries) additional) is in
    record {
      suffices = λ fit. placed ∙ (ap (λ members. record_expr members additional) fit ∙ sym own);
      needed = λ fit. same_members _ _ additional additional (sym placed ∙ (fit ∙ own));
    }

-- the attributes of two records agree exactly where the first ones and the others do
first_agrees : (name : List _) (required : Bool) (a b : Expr) (rest others : Members)
    → member name required a rest ≡ member name required b others → a ≡ b
first_agrees name required a b rest others e = cc

-- and so do the others
rest_agrees : (name : List _) (required : Bool) (a b : Expr) (rest others : Members)
    → member name required a rest ≡ member name required b others → rest ≡ others
rest_agrees name required a b rest others e = cc

-- after an entry whose references fit the others decide
pub FitByRest-rest : (it : RecordType ConditionalName) (name : String Global) (attribute : TypeOfAttribute ConditionalName)
    (left rest : Entries) → left ≡ (name, attribute) ∷ rest
    → ReferencesFit (out-TypeOfAttribute ConditionalName attribute).ty → FitByRest it left → FitByRest it rest
FitByRest-rest it name attribute left rest is fit decided =
    let required = (out-TypeOfAttribute ConditionalName attribute).required in
    let ty = (out-TypeOfAttribute ConditionalName attribute).ty in
    let placed : positional_members left ≡ member (string_bytes name) required (positional_expr ty) (positional_members rest) =
    ap positional_members is ∙ ap (λ pair. member (string_bytes name) pair.0 pair.1 (positional_members rest))
    (flag_and_expr-parts ConditionalName positional_reference attribute) in
    let own : own_members left ≡ member (string_bytes name) required (conditional_expr ty) (own_members rest) =
    ap own_members is ∙ ap (λ pair. member (string_bytes name) pair.0 pair.1 (own_members rest))
    (flag_and_expr-parts ConditionalName own_reference attribute) in
    record {
      suffices = λ others. decided.suffices (placed ∙ ((λ i. member (string_bytes name) required (fit i) (others i)) ∙ sym own));
      needed = λ all. rest_agrees (string_bytes name) required (positional_expr ty) (conditional_expr ty) _ _
          (sym placed ∙ (decided.needed all ∙ own));
    }

-- where the references of an entry don't fit, those of the record type don't
pub unfit_by : (it : RecordType ConditionalName) (name : String Global) (attribute : TypeOfAttribute ConditionalName)
    (left rest : Entries) → left ≡ (name, attribute) ∷ rest
    → ¬ ReferencesFit (out-TypeOfAttribute ConditionalName attribute).ty → FitByRest it left
    → ¬ (positional_record it ≡ conditional_record it)
unfit_by it name attribute left rest is unfit decided all =
    let required = (out-TypeOfAttribute ConditionalName attribute).required in
    let ty = (out-TypeOfAttribute ConditionalName attribute).ty in
    let placed : positional_members left ≡ member (string_bytes name) required (positional_expr ty) (positional_members rest) =
    ap positional_members is ∙ ap (λ pair. member (string_bytes name) pair.0 pair.1 (positional_members rest))
    (flag_and_expr-parts ConditionalName positional_reference attribute) in
    let own : own_members left ≡ member (string_bytes name) required (conditional_expr ty) (own_members rest) =
    ap own_members is ∙ ap (λ pair. member (string_bytes name) pair.0 pair.1 (own_members rest))
    (flag_and_expr-parts ConditionalName own_reference attribute) in
    unfit (first_agrees (string_bytes name) required (positional_expr ty) (conditional_expr ty) _ _
    (sym placed ∙ (decided.needed all ∙ own)))
