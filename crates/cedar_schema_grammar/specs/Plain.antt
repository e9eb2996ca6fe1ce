-- The plain data that a value of the code stands for.
use Rattle.std.specs.Prelude.{map, string_bytes}
use Rattle.std.specs.Option.{option_map}
use Rattle.cedar_schema_grammar.specs.declared.tree.Name as code_name
use Rattle.cedar_schema_grammar.specs.declared.tree.Path as code_path
use Rattle.cedar_schema_grammar.specs.declared.tree.Attribute as code_attribute
use Rattle.cedar_schema_grammar.specs.declared.tree.Type as code
use Rattle.cedar_schema_grammar.specs.declared.tree.Type.TheOpen as layer
use Rattle.cedar_schema_grammar.specs.declared.tree.Parent as code_parent
use Rattle.cedar_schema_grammar.specs.declared.tree.Says as code_says
use Rattle.cedar_schema_grammar.specs.declared.tree.Says.TheVariants as says
use Rattle.cedar_schema_grammar.specs.declared.tree.Part as code_part
use Rattle.cedar_schema_grammar.specs.declared.tree.Applies as code_applies
use Rattle.cedar_schema_grammar.specs.declared.tree.Body as code_body
use Rattle.cedar_schema_grammar.specs.declared.tree.Body.TheVariants as bodies
use Rattle.cedar_schema_grammar.specs.declared.tree.Item as code_item
use Rattle.cedar_schema_grammar.specs.declared.tree.Item.TheVariants as items
use Rattle.cedar_schema_grammar.specs.declared.tree.Declaration as code_declaration
use Rattle.cedar_schema_grammar.specs.declared.tree.Member as code_member
use Rattle.cedar_schema_grammar.specs.declared.tree.Member.TheVariants as member
use Rattle.cedar_schema_grammar.specs.Tree.{Name, Path, Ty, named, set_of, record_of, Attribute, attributes_from, Parent, Says, principals, resources, context, Part, Applies, Body, choices, standard, Item, entity, action, common, Declaration, Member, namespace, alone}

abbrev pub name_of : code_name.Name → Name
name_of x = record { text = string_bytes x.text; loc = x.loc }

abbrev pub path_of : code_path.Path → Path
path_of p = record { ids = map string_bytes p.ids.items; loc = p.loc }

abbrev pub attribute_step : code_attribute.Attribute Ty → Attribute
attribute_step a =
    record {
      annotations = map name_of a.annotations.items;
      name = name_of a.name;
      is_required = a.is_required;
      of = a.of;
    }

-- one level, with what the types inside stand for in their places
abbrev pub type_step : layer.Type-F Ty → Ty
type_step (layer.Path p) = named (path_of p)
type_step (layer.Set element) = set_of element.value
type_step (layer.Record all loc) = record_of (attributes_from (map attribute_step all.items)) loc

abbrev pub type_of : code.Type → Ty
type_of = code.fold-Type Ty type_step

abbrev pub attribute_of : code_attribute.Attribute code.Type → Attribute
attribute_of a =
    record {
      annotations = map name_of a.annotations.items;
      name = name_of a.name;
      is_required = a.is_required;
      of = type_of a.of;
    }

abbrev pub parent_of : code_parent.Parent → Parent
parent_of p = record { ty = option_map path_of p.ty; id = name_of p.id; loc = p.loc }

abbrev pub says_of : code_says.Says → Says
says_of (says.Principals paths) = principals (map path_of paths.items)
says_of (says.Resources paths) = resources (map path_of paths.items)
says_of (says.Context ty) = context (type_of ty)

abbrev pub part_of : code_part.Part → Part
part_of p = record { says = says_of p.says; loc = p.loc }

abbrev pub applies_of : code_applies.Applies → Applies
applies_of it = record { parts = map part_of it.parts.items; loc = it.loc }

abbrev pub body_of : code_body.Body → Body
body_of (bodies.Choices names) = choices (map name_of names.items)
body_of (bodies.Standard parents shape tags) =
    standard (map path_of parents.items) (option_map type_of shape) (option_map type_of tags)

abbrev pub item_of : code_item.Item → Item
item_of (items.Entity external names body) =
    entity external (map name_of names.items) (body_of body)
item_of (items.Action external names parents applies) =
    action external (map name_of names.items) (option_map (λ v. map parent_of v.items) parents)
    (option_map applies_of applies)
item_of (items.Common name of) = common (name_of name) (type_of of)

abbrev pub declaration_of : code_declaration.Declaration → Declaration
declaration_of d =
    record { annotations = map name_of d.annotations.items; item = item_of d.item; loc = d.loc }

abbrev pub member_of : code_member.Member → Member
member_of (member.Namespace annotations path declarations loc) =
    namespace (map name_of annotations.items) (path_of path)
    (map declaration_of declarations.items) loc
member_of (member.Alone d) = alone (declaration_of d)
