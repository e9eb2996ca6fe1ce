use Rattle.std.specs.Prelude.{Bool, false, true}
use Rattle.cedar_type_rules.specs.Ty.{Ty, any_entity, union_of}
use Rattle.cedar_types.specs.EntityLUB.{lub_names}
use Rattle.cedar_types.specs.declared.entity_kind.EntityKind.{EntityKind}
use Rattle.cedar_types.specs.declared.entity_kind.EntityKind.TheVariants as kind

-- the type of the entities that a kind admits
abbrev pub kind_ty : EntityKind → Ty
kind_ty kind.AnyEntity = any_entity
kind_ty (kind.Entity lub) = union_of (lub_names lub)

-- the kind is that of the entities of a union
abbrev pub is_of_union : EntityKind → Bool
is_of_union kind.AnyEntity = false
is_of_union (kind.Entity lub) = true
