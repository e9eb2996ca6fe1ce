-- How deep and how large the attributes of a record are together, and which are elaborated.
use Rattle.std.proofs.Common.{◌≡◌, ◌+◌, Bool, max, arith}
use Rattle.cedar_elaboration.proofs.RecordLemmas.{append_fields, append_members}
use Rattle.cedar_type_rules.specs.Ty.{Fields, Ty, end, field}
use Rattle.cedar_written_out.specs.Words.{Defined, ElaboratesTo, Expr, Members, MembersElaborateTo, Text, as_member, fields_depth, fields_size, member, no_member}

-- the depth of attributes after others
pub fields_depth-append : (fields others : Fields)
    → fields_depth (append_fields fields others) ≡ max (fields_depth fields) (fields_depth others)
fields_depth-append end others = omega arith
fields_depth-append (field name required ty rest) others = omega (arith, fields_depth-append rest others)

-- and their size
pub fields_size-append : (fields others : Fields)
    → fields_size (append_fields fields others) ≡ fields_size fields + fields_size others
fields_size-append end others = omega arith
fields_size-append (field name required ty rest) others = omega (arith, fields_size-append rest others)

-- where attributes are elaborated, so is the type of each
pub member_elaborated : (defined : Defined) (front : Members) (name : Text) (required : Bool) (expr : Expr) (rest : Members) (fields : Fields)
    → MembersElaborateTo defined (append_members front (member name required expr rest)) fields → (ty : Ty) × ElaboratesTo defined expr ty
member_elaborated defined no_member name required expr rest fields (as_member {ty = ty} first later) = (ty, first)
member_elaborated defined (member other flag before front) name required expr rest fields (as_member {fields = fields'} first later) =
    member_elaborated defined front name required expr rest fields' later
