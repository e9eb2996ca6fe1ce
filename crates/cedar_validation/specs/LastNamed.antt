-- The last of some items that passes a test, and the last entity type of a name, or action of a
-- uid.
use Rattle.std.specs.Option.{option_or}
use Rattle.std.specs.Ordering.{is_eq}
use Rattle.std.specs.Prelude.{Bool, cond, List, [], ◌∷◌, Option, None, Some}
use Rattle.cedar_ast.specs.Words.{PlainName, PlainUid, name_cmp, uid_cmp}
use Rattle.cedar_schema_elements.specs.Words.{action_of, entity_type_of}
use Rattle.cedar_schema_elements.specs.declared.action_id.ValidatorActionId.{ValidatorActionId}
use Rattle.cedar_schema_elements.specs.declared.entity_type.ValidatorEntityType.{ValidatorEntityType}

-- the last of some items that passes a test
abbrev pub last_that : {A : Type 0} → (A → Bool) → List A → Option A
last_that test [] = None
last_that test (item ∷ rest) = option_or (last_that test rest) (cond (test item) (Some item) None)

-- the last of some entity types that has the name
abbrev pub last_named : PlainName → List ValidatorEntityType → Option ValidatorEntityType
last_named name types = last_that (λ it. is_eq (name_cmp name (entity_type_of it).name)) types

-- the last of some actions that has the uid
abbrev pub last_of_uid : PlainUid → List ValidatorActionId → Option ValidatorActionId
last_of_uid uid actions = last_that (λ it. is_eq (uid_cmp uid (action_of it).uid)) actions
