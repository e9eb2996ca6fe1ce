-- Keys tie where they are those of the same fault.
use Rattle.std.proofs.Common.{◌≡◌, ◌↔◌, [], ◌∷◌, ap, sym, ◌∙◌}
use Rattle.std.specs.declared.cmp.Ordering.{Ordering}
use Rattle.std.specs.declared.cmp.Ordering.TheVariants.{Equal}
use Rattle.cedar_ast.specs.Words.{PlainName, PlainUid, Text}
use Rattle.cedar_schema_semantics.specs.Words.{Fault, action_attributes, action_cycle, action_entity_type, action_shadowing, alias_name, common_type_cycle, context_not_record, duplicate_action, duplicate_common_type, duplicate_entity_type, shape_not_record, type_shadowing, undeclared_entity_types, unknown_extension_type}

-- keys that tie where they stand for the same tie where that gives the same fault, if the fault
-- gives it back
pub tie_through : {K P : Type 0} (R : K → K → Ordering) (f : K → P) → ((a b : K) → (R a b ≡ Equal) ↔ (f a ≡ f b))
    → (F : P → Fault) (G : Fault → P) → ((p : P) → G (F p) ≡ p) → (a b : K) → (R a b ≡ Equal) ↔ (F (f a) ≡ F (f b))
tie_through R f tie F G back a b =
    (λ e. ap F ((tie a b).0 e), λ e. (tie a b).1 (sym (back (f a)) ∙ (ap G e ∙ back (f b))))

-- the name that a fault carries, the last of two
abbrev pub name_told : Fault → PlainName
name_told (undeclared_entity_types (name ∷ names)) = name
name_told (type_shadowing plain qualified) = qualified
name_told (duplicate_entity_type name) = name
name_told (duplicate_common_type name) = name
name_told (common_type_cycle name) = name
name_told (action_entity_type name) = name
name_told (shape_not_record name) = name
name_told (unknown_extension_type name) = name
name_told _ = alias_name []

-- the uid that a fault carries, the last of two
abbrev pub uid_told : Fault → PlainUid
uid_told (action_shadowing plain qualified) = qualified
uid_told (duplicate_action uid) = uid
uid_told (action_cycle uid) = uid
uid_told (context_not_record uid) = uid
uid_told _ = record { ty = alias_name []; eid = [] }

-- the id that a fault carries
abbrev pub id_told : Fault → Text
id_told (action_attributes (id ∷ ids)) = id
id_told _ = []
