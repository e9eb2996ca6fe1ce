-- Records of attributes whose types are stated.
use Rattle.std.proofs.Common.{◌≡◌, ◌∷◌, [], Bool, List, None, Option, Some, IsTrue, if◌then◌else◌, inl, inr, refl, subst, sym, true, false, ◌∙◌, Global}
use Rattle.std.specs.List.{AllByRecursion}
use Rattle.std.specs.Option.{option_or}
use Rattle.std.specs.Str.{bytes_eq}
use Rattle.std.specs.declared.rc.Rc.{Rc}
use Rattle.std.specs.declared.string.String.{String}
use Rattle.cedar_ast.specs.Words.{Text, last_named}
use Rattle.cedar_ast.specs.declared.extension.Extensions.{Extensions}
use Rattle.cedar_type_rules.proofs.SubtypeLemmas.{found-HasField}
use Rattle.cedar_type_rules.specs.Words.{AreInhabitedWith, Fields, FieldsRequireAll, HasField, IsRecordOf, IsStatedWith, Ty, end, field}
use Rattle.cedar_type_rules.specs.declared.open_tag.OpenTag.{OpenTag}
use Rattle.cedar_types.specs.Words.{plain_required, ty_of}
use Rattle.cedar_types.specs.declared.types.Type.{«Type»}
use Rattle.schema_lines.specs.Samples.{IsStatedAlone}

-- what holds of the first and of what is found later holds of what is found
chosen_holds : {A : Type 0} (P : A → Type 0) (later : Option A) (b : Bool) (first found : A) → P first
    → (later ≡ Some found → P found) → option_or later (if b then Some first else None) ≡ Some found → P found
chosen_holds P (Some x) b first found holds others is = others is
chosen_holds P None true first found holds others is = let same : first ≡ found = cc in subst P same holds
chosen_holds P None false first found holds others is = absurd cc

-- what holds of each pair holds of the last of a name
last_holds : {A : Type 0} (P : A → Type 0) (name : Text) (items : List (Text × A)) (found : A)
    → AllByRecursion (λ item. P item.1) items → last_named name items ≡ Some found → P found
last_holds P name [] found all is = absurd cc
last_holds P name (item ∷ rest) found all is =
    chosen_holds P (last_named name rest) (bytes_eq name item.0) item.1 found all.0 (last_holds P name rest found all.1) is

-- attributes each of which is required, with a stated type, are inhabited and require all
stated_each : (extensions : Extensions) (fields : Fields)
    → ((name : Text) (required : Bool) (ty : Ty) → HasField fields name required ty → IsTrue required × IsStatedWith extensions [] ty)
    → AreInhabitedWith extensions [] fields × FieldsRequireAll fields
stated_each extensions end each = (tt, tt)
stated_each extensions (field name required ty rest) each =
    let first = each name required ty (inl (refl, refl, refl)) in
    let others = stated_each extensions rest (λ n r t has. each n r t (inr has)) in
    ((first.1.0, others.0), (first.0, first.1.1, others.1))

-- an attribute is required, and its type is stated
abbrev IsStatedAttribute : Bool × Ty → Type 0
IsStatedAttribute attribute = IsTrue attribute.0 × IsStatedAlone attribute.1

-- required attributes of stated types are stated
plain_stated : (items : List (String Global × Rc «Type» Global)) → AllByRecursion (λ item. IsStatedAlone (ty_of item.1.value)) items
    → AllByRecursion (λ item. IsStatedAttribute item.1) (plain_required items)
plain_stated [] all = tt
plain_stated (item ∷ rest) all = ((refl, all.0), plain_stated rest all.1)

-- a record of required attributes of stated types is stated
pub stated_record : (items : List (String Global × Rc «Type» Global)) (openness : OpenTag) (ty : Ty)
    → AllByRecursion (λ item. IsStatedAlone (ty_of item.1.value)) items → IsRecordOf (plain_required items) openness ty → IsStatedAlone ty
stated_record items openness ty all made extensions =
    let P : Ty → Type 0 = IsStatedWith extensions [] in
    subst P (sym made.1) (stated_each extensions made.0 (λ n r t has.
    let attribute = last_holds IsStatedAttribute n (plain_required items) (r, t) (plain_stated items all)
    (sym (made.2 n) ∙ found-HasField n made.0 r t made.3 has) in
    (attribute.0, attribute.1 extensions)))
