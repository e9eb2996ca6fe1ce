-- What an entity type that is found declares.
use Rattle.std.proofs.Common.{◌≡◌, ◌↔◌, Bool, IsTrue, Bor, Option, None, Some, is_some, map, ap, sym, ◌∙◌}
use Rattle.std.proofs.lemmas.Bool.{false≢true}
use Rattle.std.specs.Option.{option_and_then, option_copied, option_map, option_map_or}
use Rattle.cedar_ast.specs.contracts.entity_type.EntityTypeOrd.TheImpl as type_ord
use Rattle.cedar_queries.proofs.LookupLemmas.{plain_type, type_found}
use Rattle.cedar_queries.specs.Words.{EntityType, Entries, OpenAttributes, SchemaEntityType, ValidatorEntityType, declared_fields, end, get_by, kind_fields, kind_openness, kind_tags, plain_entry, type_at, type_name}

module _ (types : Entries EntityType ValidatorEntityType) (name : EntityType) (o : Option ValidatorEntityType)
    (is : get_by ((type_ord.ghosts).cmp name) types ≡ o) where
  -- what is found under a name, as plain data
  pub found : type_at (type_name name) (map plain_entry types.entries) ≡ option_map plain_type o
  found = type_found types name ∙ ap (option_map plain_type) is

  -- the attributes that are declared of a name are those of the entity type that is found
  pub fields_found : declared_fields (map plain_entry types.entries) (type_name name)
      ≡ option_map_or (λ (it : SchemaEntityType). kind_fields it.kind) (option_map plain_type o) end
  fields_found = ap (λ each. option_map_or (λ (it : SchemaEntityType). kind_fields it.kind) each end) found

  -- the type of its tags is that of the entity type that is found
  pub tags_found : option_and_then (λ (it : SchemaEntityType). kind_tags it.kind) (type_at (type_name name) (map plain_entry types.entries))
      ≡ option_and_then (λ (it : SchemaEntityType). kind_tags it.kind) (option_map plain_type o)
  tags_found = ap (option_and_then (λ (it : SchemaEntityType). kind_tags it.kind)) found

  -- its openness is that of the entity type that is found, and else it counts as open
  pub openness_found : option_map_or (λ (it : SchemaEntityType). kind_openness it.kind)
      (type_at (type_name name) (map plain_entry types.entries)) OpenAttributes
      ≡ option_map_or (λ (it : SchemaEntityType). kind_openness it.kind) (option_map plain_type o) OpenAttributes
  openness_found = ap (λ each. option_map_or (λ (it : SchemaEntityType). kind_openness it.kind) each OpenAttributes) found

-- a value is borrowed exactly where there is what it shows
pub some_shown : {A B : Type 0} (shows : A → B) (o : Option (Bor A)) (shown : Option B) (b : Bool) → b ≡ is_some o
    → option_map shows (option_copied o) ≡ shown → IsTrue b ↔ ((value : B) × (shown ≡ Some value))
some_shown shows None shown b is same = (
  λ found. absurd (false≢true (sym is ∙ found)),
  λ some. (let none = same ∙ some.1 in absurd cc),
)
some_shown shows (Some it) shown b is same = (λ _. (shows it.now, sym same), λ _. is)
