use Rattle.std.specs.Prelude.{Bool, true, List, map, string_bytes}
use Rattle.std.specs.declared.alloc.Global.{Global}
use Rattle.std.specs.declared.rc.Rc.{Rc}
use Rattle.std.specs.declared.string.String.{String}
use Rattle.cedar_ast.specs.Text.{Text}
use Rattle.cedar_type_rules.specs.Ty.{Ty}
use Rattle.cedar_types.specs.Meaning.{ty_of, attribute_of}
use Rattle.cedar_types.specs.declared.attributes.AttributeType.{AttributeType}
use Rattle.cedar_types.specs.declared.types.Type.{«Type»}

-- pairs of a name and an attribute, as plain data
abbrev pub plain_attributes : List (String Global × AttributeType) → List (Text × (Bool × Ty))
plain_attributes items = map (λ item. (string_bytes item.0, attribute_of item.1)) items

-- pairs of a name and the type of an attribute that is required, as plain data
abbrev pub plain_required : List (String Global × Rc «Type» Global) → List (Text × (Bool × Ty))
plain_required items = map (λ item. (string_bytes item.0, (true, ty_of item.1.value))) items
