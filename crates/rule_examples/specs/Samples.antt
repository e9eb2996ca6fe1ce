use Rattle.std.specs.Prelude.{true, false, [], ◌∷◌, codes}
use Rattle.cedar_ast.specs.PlainName.{PlainName}
use Rattle.cedar_type_rules.specs.Ty.{Ty, truth, long, text, union_of, any_set, set_of, record_of, extension_of, end, field}
use Rattle.cedar_type_rules.specs.declared.bool_type.BoolType.TheVariants.{AnyBool, False}
use Rattle.cedar_type_rules.specs.declared.open_tag.OpenTag.TheVariants.{OpenAttributes, ClosedAttributes}

-- the name `Foo`
abbrev pub foo_name : PlainName
foo_name = record { base = codes "Foo"; path = [] }

-- the name `Bar`
abbrev pub bar_name : PlainName
bar_name = record { base = codes "Bar"; path = [] }

-- the name `ipaddr`
abbrev pub ip_name : PlainName
ip_name = record { base = codes "ipaddr"; path = [] }

-- the entities of the type `Foo`
abbrev pub foo_entity : Ty
foo_entity = union_of (foo_name ∷ [])

-- the entities of the type `Bar`
abbrev pub bar_entity : Ty
bar_entity = union_of (bar_name ∷ [])

-- the entities of either type
abbrev pub foo_or_bar : Ty
foo_or_bar = union_of (bar_name ∷ foo_name ∷ [])

-- the sets of truth values
abbrev pub set_of_truths : Ty
set_of_truths = set_of (truth AnyBool)

-- the sets of whole numbers
abbrev pub set_of_longs : Ty
set_of_longs = set_of long

-- closed `{bar: Long, foo: False}`
abbrev pub bar_and_false : Ty
bar_and_false = record_of (field (codes "bar") true long
    (field (codes "foo") true (truth False) end)) ClosedAttributes

-- closed `{bar: Long, foo: String}`
abbrev pub bar_and_text : Ty
bar_and_text = record_of (field (codes "bar") true long
    (field (codes "foo") true text end)) ClosedAttributes

-- open `{bar: Long}`
abbrev pub open_bar : Ty
open_bar = record_of (field (codes "bar") true long end) OpenAttributes

-- closed `{s: any-set, t: Long}`
abbrev pub any_set_and_long : Ty
any_set_and_long = record_of (field (codes "s") true any_set
    (field (codes "t") true long end)) ClosedAttributes

-- closed `{s: Long, t: Long}`
abbrev pub long_and_long : Ty
long_and_long = record_of (field (codes "s") true long
    (field (codes "t") true long end)) ClosedAttributes

-- open `{t: Long}`
abbrev pub open_t : Ty
open_t = record_of (field (codes "t") true long end) OpenAttributes

-- closed `{y: Long}`
abbrev pub required_y : Ty
required_y = record_of (field (codes "y") true long end) ClosedAttributes

-- closed `{y?: Long}`
abbrev pub optional_y : Ty
optional_y = record_of (field (codes "y") false long end) ClosedAttributes

-- closed `{y: String}`
abbrev pub text_y : Ty
text_y = record_of (field (codes "y") true text end) ClosedAttributes

-- open `{y: Long}`
abbrev pub open_y : Ty
open_y = record_of (field (codes "y") true long end) OpenAttributes

-- open `{y?: Long, y: Long}`, with a name twice
abbrev pub twice_y : Ty
twice_y = record_of (field (codes "y") false long (field (codes "y") true long end)) OpenAttributes

-- closed `{}`
abbrev pub unit_record : Ty
unit_record = record_of end ClosedAttributes

-- the extension type `ipaddr`
abbrev pub ip_type : Ty
ip_type = extension_of ip_name
