use Rattle.std.specs.Cmp.Lexicographic.{slice_cmp}
use Rattle.std.specs.Ordering.{bool_cmp, nat_cmp, ordering_then}
use Rattle.std.specs.Prelude.{ℕ, Bool, List}
use Rattle.std.specs.declared.cmp.Ordering.{Ordering}
use Rattle.std.specs.declared.cmp.Ordering.TheVariants.{Less, Equal, Greater}
use Rattle.cedar_ast.specs.Words.{PlainName, name_cmp, text_cmp}
use Rattle.cedar_type_rules.specs.Ty.{Ty, never, truth, long, text, any_entity, union_of, any_set, set_of, record_of, extension_of, Fields, end, field}
use Rattle.cedar_type_rules.specs.declared.bool_type.BoolType.{BoolType}
use Rattle.cedar_type_rules.specs.declared.bool_type.BoolType.TheVariants as bool_type
use Rattle.cedar_type_rules.specs.declared.open_tag.OpenTag.{OpenTag}
use Rattle.cedar_type_rules.specs.declared.open_tag.OpenTag.TheVariants.{OpenAttributes, ClosedAttributes}

-- the place of what is known of a truth value: any, true, false
abbrev pub truth_rank : BoolType → ℕ
truth_rank bool_type.AnyBool = 0
truth_rank bool_type.True = 1
truth_rank bool_type.False = 2

-- the order of what is known of a truth value: any is below true, and true below false
abbrev pub truth_cmp : BoolType → BoolType → Ordering
truth_cmp a b = nat_cmp (truth_rank a) (truth_rank b)

-- the order of openness: open is below closed
abbrev pub openness_cmp : OpenTag → OpenTag → Ordering
openness_cmp OpenAttributes OpenAttributes = Equal
openness_cmp OpenAttributes ClosedAttributes = Less
openness_cmp ClosedAttributes OpenAttributes = Greater
openness_cmp ClosedAttributes ClosedAttributes = Equal

-- the order of unions: by the names in turn, as in a dictionary
abbrev pub union_cmp : List PlainName → List PlainName → Ordering
union_cmp = slice_cmp name_cmp

-- the place of a type's kind: `Never`, truth values, whole numbers, texts, entities, sets, records,
-- extension types
abbrev pub kind_rank : Ty → ℕ
kind_rank never = 0
kind_rank (truth known) = 1
kind_rank long = 2
kind_rank text = 3
kind_rank any_entity = 4
kind_rank (union_of names) = 4
kind_rank any_set = 5
kind_rank (set_of element) = 5
kind_rank (record_of fields openness) = 6
kind_rank (extension_of name) = 7

abbrev mutual
  -- the order of types: by kind; any entity is below a union, and the any-set below a set of a
  -- type; records go by their attributes and then by openness, and all else by its part
  pub ty_cmp : Ty → Ty → Ordering
  ty_cmp (truth a) (truth b) = truth_cmp a b
  ty_cmp any_entity (union_of b) = Less
  ty_cmp (union_of a) any_entity = Greater
  ty_cmp (union_of a) (union_of b) = union_cmp a b
  ty_cmp any_set (set_of b) = Less
  ty_cmp (set_of a) any_set = Greater
  ty_cmp (set_of a) (set_of b) = ty_cmp a b
  ty_cmp (record_of a openness) (record_of b other_openness) =
      ordering_then (fields_cmp a b) (openness_cmp openness other_openness)
  ty_cmp (extension_of a) (extension_of b) = name_cmp a b
  ty_cmp a b = nat_cmp (kind_rank a) (kind_rank b)

  -- the order of attributes: in turn, each by its name, its type and its flag; what may be missing
  -- is below what is required, and what ends first is below
  pub fields_cmp : Fields → Fields → Ordering
  fields_cmp end end = Equal
  fields_cmp end (field name required ty rest) = Less
  fields_cmp (field name required ty rest) end = Greater
  fields_cmp (field a required ty rest) (field b other_required other_ty other_rest) =
      ordering_then
      (ordering_then (text_cmp a b) (ordering_then (ty_cmp ty other_ty)
      (bool_cmp required other_required)))
      (fields_cmp rest other_rest)

-- the order of one attribute: by its type, and then by its flag
abbrev pub attribute_cmp : Bool × Ty → Bool × Ty → Ordering
attribute_cmp a b = ordering_then (ty_cmp a.1 b.1) (bool_cmp a.0 b.0)
