-- What is listed of a type, by its parts.
use Rattle.std.proofs.Common.{◌≡◌, List, [], ◌∷◌, ◌++◌, Option, append_assoc, cond, ap, sym, ◌∙◌}
use Rattle.std.proofs.lemmas.List.Folds.{flat_map-map}
use Rattle.std.specs.List.{flat_map}
use Rattle.std.specs.declared.alloc.Global.{Global}
use Rattle.std.specs.declared.string.String.{String}
use Rattle.cedar_places.proofs.InTurn.{IsListing}
use Rattle.cedar_places.specs.Words.{Loc, Marks, MarksAt, RawName, RecordType, TypeOfAttribute, attribute_marks, attribute_marks_step, fold_out-RecordType, fold_out-TypeOfAttribute, open_record, out-RecordType, out-TypeOfAttribute, record_marks, record_marks_step, type_marks, type_marks_step, variant_marks_step}

-- attributes by name
abbrev Entries : Type 0
Entries = List (String Global × TypeOfAttribute RawName)

-- what is listed of an attribute that stands under its name
abbrev pub entry_marks : String Global × TypeOfAttribute RawName → Marks
entry_marks entry = type_marks (out-TypeOfAttribute RawName entry.1).ty

-- an attribute has what its type has
attribute_marks-ty : (it : TypeOfAttribute RawName) → attribute_marks it ≡ type_marks (out-TypeOfAttribute RawName it).ty
attribute_marks-ty it =
    fold_out-TypeOfAttribute RawName Marks MarksAt MarksAt Marks type_marks_step variant_marks_step record_marks_step
    attribute_marks_step it

-- what is listed of a record type itself: where it is, if it is open
abbrev pub open_marks : RecordType RawName → Option Loc → Marks
open_marks it loc = cond (out-RecordType RawName it).additional_attributes ((open_record, loc) ∷ []) []

-- what is listed of a record type: itself, and then its attributes in turn
record_marks-entries : (it : RecordType RawName) (loc : Option Loc) → record_marks it loc
    ≡ open_marks it loc ++ flat_map entry_marks (out-RecordType RawName it).attributes.entries
record_marks-entries it loc =
    ap (λ listed. listed loc)
    (fold_out-RecordType RawName Marks MarksAt MarksAt Marks type_marks_step variant_marks_step record_marks_step attribute_marks_step it)
    ∙ ap (λ rest. open_marks it loc ++ rest)
    (flat_map-map (λ (entry : String Global × Marks). entry.1)
    (λ (entry : String Global × TypeOfAttribute RawName). (entry.0, attribute_marks entry.1))
    (out-RecordType RawName it).attributes.entries ∙ (λ i. flat_map (λ entry. attribute_marks-ty entry.1 i) (out-RecordType RawName it).attributes.entries))

-- once an open record type itself is listed, its attributes are left
pub record_marks-begun : (it : RecordType RawName) (loc : Option Loc) (before now : Marks) (left : Entries)
    → (out-RecordType RawName it).attributes.entries ≡ left → now ≡ before ++ open_marks it loc
    → IsListing entry_marks now left (before ++ record_marks it loc)
record_marks-begun it loc before now left is begun =
    ap (λ listed. listed ++ flat_map entry_marks left) begun
    ∙ (append_assoc before (open_marks it loc) (flat_map entry_marks left)
    ∙ ap (λ listed. before ++ listed)
    (sym (ap (λ entries. open_marks it loc ++ flat_map entry_marks entries) is) ∙ sym (record_marks-entries it loc)))
