use Rattle.std.specs.Prelude.{Bool, [], ◌∷◌}
use Rattle.cedar_ast.specs.Words.{PlainName, Text}
use Rattle.cedar_schema_ast.specs.Words.{Expr, Members, Reference, extension_expr, long_expr, member, named, no_member, record_expr, set_expr, text_expr, truth_expr}
use Rattle.cedar_schema_semantics.specs.Defined.{Defined, IsCommon, names_of}
use Rattle.cedar_schema_semantics.specs.Names.{ResolvesTo, IsEntity}
use Rattle.cedar_type_rules.specs.Ty.{Ty, long, text, truth, set_of, union_of, record_of, extension_of, Fields, end, field}
use Rattle.cedar_type_rules.specs.declared.bool_type.BoolType.TheVariants.{AnyBool}
use Rattle.cedar_type_rules.specs.declared.open_tag.OpenTag.TheVariants.{ClosedAttributes}

mutual
  -- the expression is elaborated as the type: a record as the closed record of the same names and
  -- flags, an entity type as the union of it alone, and a common type as whatever its definition is
  -- elaborated as; a name that is both is taken as the common type (RFC 24)
  pub data ElaboratesTo (defined : Defined) : Expr → Ty → Type 0 where
    as_text : ElaboratesTo defined text_expr text
    as_long : ElaboratesTo defined long_expr long
    as_truth : ElaboratesTo defined truth_expr (truth AnyBool)
    as_set : {element : Expr} {ty : Ty} → ElaboratesTo defined element ty
        → ElaboratesTo defined (set_expr element) (set_of ty)
    as_record : {members : Members} {fields : Fields} {additional : Bool}
        → MembersElaborateTo defined members fields
        → ElaboratesTo defined (record_expr members additional) (record_of fields ClosedAttributes)
    as_entity : (reference : Reference) (name : PlainName)
        → ResolvesTo (names_of defined) reference name
        → IsEntity (names_of defined) reference.kind name
        → ((body : Expr) → ¬ IsCommon defined reference.kind name body)
        → ElaboratesTo defined (named reference) (union_of (name ∷ []))
    as_common : (reference : Reference) (name : PlainName) (body : Expr) {ty : Ty}
        → ResolvesTo (names_of defined) reference name
        → IsCommon defined reference.kind name body → ElaboratesTo defined body ty
        → ElaboratesTo defined (named reference) ty
    as_extension : (name : Text)
        → ElaboratesTo defined (extension_expr name)
        (extension_of (record { base = name; path = [] }))

  -- the same of the attributes of a record, each under its name and with its flag
  pub data MembersElaborateTo (defined : Defined) : Members → Fields → Type 0 where
    as_no_member : MembersElaborateTo defined no_member end
    as_member : {name : Text} {required : Bool} {expr : Expr} {ty : Ty} {rest : Members}
        {fields : Fields}
        → ElaboratesTo defined expr ty → MembersElaborateTo defined rest fields
        → MembersElaborateTo defined (member name required expr rest)
        (field name required ty fields)

-- the type is that of records
abbrev pub IsRecordType : Ty → Type 0
IsRecordType (record_of fields openness) = Unit {0}
IsRecordType _ = ⊥

-- the expression is elaborated as a type that is no record type
abbrev pub IsNoRecord : Defined → Expr → Type 0
IsNoRecord defined expr = (ty : Ty) × ElaboratesTo defined expr ty × ¬ IsRecordType ty
