use Rattle.std.specs.Prelude.{List, map}
use Rattle.cedar_ast.specs.Words.{PlainName, type_name}
use Rattle.cedar_ast.specs.declared.entity_type.EntityType.{EntityType}
use Rattle.cedar_schema_ast.specs.Words.{Reference, conditional_reference}
use Rattle.cedar_schema_ast.specs.declared.json_schema.conditional_name.ConditionalName.{ConditionalName}
use Rattle.cedar_schema_elements.specs.declared.apply_spec.ValidatorApplySpec.{ValidatorApplySpec}

-- the types of the principals, in some order
abbrev pub principal_types : {N : Type 0} → ValidatorApplySpec N → List N
principal_types it = it.principals.keys

-- the types of the resources, in some order
abbrev pub resource_types : {N : Type 0} → ValidatorApplySpec N → List N
resource_types it = it.resources.keys

-- the names of the types of the principals, in some order
abbrev pub principal_names : ValidatorApplySpec EntityType → List PlainName
principal_names it = map type_name (principal_types it)

-- the names of the types of the resources, in some order
abbrev pub resource_names : ValidatorApplySpec EntityType → List PlainName
resource_names it = map type_name (resource_types it)

-- what the references to the types of the principals stand for, in some order
abbrev pub principal_references : ValidatorApplySpec ConditionalName → List Reference
principal_references it = map conditional_reference (principal_types it)

-- what the references to the types of the resources stand for, in some order
abbrev pub resource_references : ValidatorApplySpec ConditionalName → List Reference
resource_references it = map conditional_reference (resource_types it)
