use Rattle.std.proofs.Common.{◌≡◌, ◌++◌, None, map}
use Rattle.std.proofs.lemmas.List.Elements.{Contains-append_left, Contains-append_right}
use Rattle.std.proofs.lemmas.Map.Views.{All-values-insert_entry}
use Rattle.std.specs.BTreeMap.{insert_entry, is_at}
use Rattle.std.specs.Map.{lookup}
use Rattle.std.specs.Option.{option_cmp}
use Rattle.cedar_ast.proofs.Basics.{Contains-image, is_eq-Equal}
use Rattle.cedar_ast.proofs.Ids.{unreserved_id_ord-text_cmp}
use Rattle.cedar_ast.proofs.Texts.{text_cmp-Equal}
use Rattle.cedar_ast.specs.contracts.name.NameOrd.TheImpl as name_ord
use Rattle.cedar_ast.specs.contracts.unreserved_id.UnreservedIdOrd.TheImpl as id_ord
use Rattle.cedar_schema_writer.proofs.Answered.{on_to}
use Rattle.cedar_schema_writer.proofs.DefinitionLemmas.{absent_key, inserted-some, middle-some, one_more, put_again, shown_inserted, was_declared}
use Rattle.cedar_schema_writer.proofs.definitions.put_entity_type.Goals as goal
use Rattle.cedar_schema_writer.specs.Words.{Declaration, EntityType, IsProper, NamespaceDefinition, RawName, UnreservedId, action_declarations, common_declarations, plain_namespace, raw_entity_body, raw_reference, type_declared, unreserved_id_text}

-- the entity type is new in its namespace, so just one more is declared
pub returns-clause-put : goal.returns-clause-put
returns-clause-put c =
    let namespace = plain_namespace c.args.namespace in
    let definition = c.take_definition-definition.result in
    let taken = c.take_definition-definition.new.definitions.entries in
    let old = c.args.definitions.now.entries in
    let entries = definition.entity_types.entries in
    let id = c.args.id in
    let show : UnreservedId × EntityType RawName → Declaration =
    λ entry. type_declared namespace (unreserved_id_text entry.0) (raw_entity_body namespace entry.1) in
    let item = show (id, c.args.declared) in
    let changed : NamespaceDefinition RawName = record definition { entity_types = c.put.new.map } in
    let new = c.put-2.new.map.entries in
    let was = c.take_definition-definition.ensures.taken in
    let common = common_declarations RawName (raw_reference namespace) namespace definition.common_types.entries in
    let actions = action_declarations RawName (raw_reference namespace) namespace definition.actions.entries in
    on_to (new ≡ insert_entry (option_cmp ((name_ord.ghosts).cmp)) taken c.args.namespace changed) _
    (λ is fresh.
    let absent : lookup (is_at ((id_ord.ghosts).cmp id)) entries ≡ None =
    absent_key (is_at ((id_ord.ghosts).cmp id)) entries (λ key value tie there.
    let text : unreserved_id_text id ≡ unreserved_id_text key =
    (text_cmp-Equal (unreserved_id_text id) (unreserved_id_text key)).0 (is_eq-Equal _ (cc (unreserved_id_ord-text_cmp id key, tie))) in
    fresh (raw_entity_body namespace value) (rw text (was_declared old taken new c.args.namespace definition changed item was (show (key, value))
    (Contains-append_left (common ++ map show entries) actions (show (key, value))
    (Contains-append_right common (map show entries) (show (key, value)) (Contains-image show entries (key, value) there)))))) in
    put_again old taken new c.args.namespace definition changed item was c.take_definition-definition.ensures.absent is
    (one_more common item (map show entries) (map show c.put.new.map.entries) actions
    (rw c.in_ok-put.ensures (shown_inserted show ((id_ord.ghosts).cmp) entries id c.args.declared absent))))
    c.put-2.result c.put-2.ensures

-- a definition with an entity type declares something
pub returns-clause-proper : goal.returns-clause-proper
returns-clause-proper c =
    let definition = c.take_definition-definition.result in
    let taken = c.take_definition-definition.new.definitions.entries in
    let entries = definition.entity_types.entries in
    let changed : NamespaceDefinition RawName = record definition { entity_types = c.put.new.map } in
    let some = rw (← c.in_ok-put.ensures) at (inserted-some ((id_ord.ghosts).cmp) entries c.args.id c.args.declared) in
    on_to (c.put-2.new.map.entries ≡ insert_entry (option_cmp ((name_ord.ghosts).cmp)) taken c.args.namespace changed) _
    (λ is all.
    let proper = c.take_definition-definition.ensures.proper all in
    let one : IsProper changed = record {
      declares = λ namespace. middle-some
          (λ (entry : UnreservedId × EntityType RawName). type_declared namespace (unreserved_id_text entry.0)
          (raw_entity_body namespace entry.1))
          (common_declarations RawName (raw_reference namespace) namespace definition.common_types.entries)
          (action_declarations RawName (raw_reference namespace) namespace definition.actions.entries)
          c.put.new.map.entries some;
      applies = proper.0;
    } in
    rw is (All-values-insert_entry (option_cmp ((name_ord.ghosts).cmp)) c.args.namespace changed IsProper taken proper.1 one))
    c.put-2.result c.put-2.ensures
