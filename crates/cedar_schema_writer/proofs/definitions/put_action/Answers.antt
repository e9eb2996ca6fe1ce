use Rattle.std.proofs.Common.{◌≡◌, ◌++◌, None, map, string_bytes, Global}
use Rattle.std.proofs.lemmas.List.Elements.{Contains-append_right}
use Rattle.std.proofs.lemmas.Map.Views.{All-values-insert_entry}
use Rattle.std.specs.BTreeMap.{insert_entry, is_at}
use Rattle.std.specs.Map.{lookup}
use Rattle.std.specs.Option.{option_cmp}
use Rattle.std.specs.String.{string_cmp}
use Rattle.std.specs.declared.string.String.{String}
use Rattle.cedar_ast.proofs.Basics.{Contains-image, is_eq-Equal}
use Rattle.cedar_ast.proofs.Texts.{text_cmp-Equal}
use Rattle.cedar_ast.specs.contracts.name.NameOrd.TheImpl as name_ord
use Rattle.cedar_schema_writer.proofs.Answered.{on_to}
use Rattle.cedar_schema_writer.proofs.DefinitionLemmas.{absent_key, end-some, inserted-some, one_more_end, put_again, shown_inserted, was_declared}
use Rattle.cedar_schema_writer.proofs.definitions.put_action.Goals as goal
use Rattle.cedar_schema_writer.specs.Words.{ActionType, AppliesIfDefined, Declaration, IsProper, NamespaceDefinition, RawName, action_body, action_declared, common_declarations, entity_declarations, plain_namespace, raw_reference}

-- the action is new in its namespace, so just one more is declared
pub returns-clause-put : goal.returns-clause-put
returns-clause-put c =
    let namespace = plain_namespace c.args.namespace in
    let definition = c.take_definition-definition.result in
    let taken = c.take_definition-definition.new.definitions.entries in
    let old = c.args.definitions.now.entries in
    let entries = definition.actions.entries in
    let id = c.args.id in
    let show : String Global × ActionType RawName → Declaration =
    λ entry. action_declared namespace (string_bytes entry.0) (action_body RawName (raw_reference namespace) namespace entry.1) in
    let item = show (id, c.args.declared) in
    let changed : NamespaceDefinition RawName = record definition { actions = c.put.new.map } in
    let new = c.put-2.new.map.entries in
    let was = c.take_definition-definition.ensures.taken in
    let others = common_declarations RawName (raw_reference namespace) namespace definition.common_types.entries
    ++ entity_declarations RawName (raw_reference namespace) namespace definition.entity_types.entries in
    on_to (new ≡ insert_entry (option_cmp ((name_ord.ghosts).cmp)) taken c.args.namespace changed) _
    (λ is fresh.
    let absent : lookup (is_at (string_cmp id)) entries ≡ None =
    absent_key (is_at (string_cmp id)) entries (λ key value tie there.
    let text : string_bytes id ≡ string_bytes key = (text_cmp-Equal (string_bytes id) (string_bytes key)).0 (is_eq-Equal _ tie) in
    let body = action_body RawName (raw_reference namespace) namespace value in
    fresh body (rw text (was_declared old taken new c.args.namespace definition changed item was (show (key, value))
    (Contains-append_right others (map show entries) (show (key, value)) (Contains-image show entries (key, value) there))))) in
    put_again old taken new c.args.namespace definition changed item was c.take_definition-definition.ensures.absent is
    (one_more_end others item (map show entries) (map show c.put.new.map.entries)
    (rw c.in_ok-put.ensures (shown_inserted show string_cmp entries id c.args.declared absent))))
    c.put-2.result c.put-2.ensures

-- a definition with an action declares something
pub returns-clause-proper : goal.returns-clause-proper
returns-clause-proper c =
    let definition = c.take_definition-definition.result in
    let taken = c.take_definition-definition.new.definitions.entries in
    let entries = definition.actions.entries in
    let changed : NamespaceDefinition RawName = record definition { actions = c.put.new.map } in
    let some = rw (← c.in_ok-put.ensures) at (inserted-some string_cmp entries c.args.id c.args.declared) in
    on_to (c.put-2.new.map.entries ≡ insert_entry (option_cmp ((name_ord.ghosts).cmp)) taken c.args.namespace changed) _
    (λ is applies all.
    let proper = c.take_definition-definition.ensures.proper all in
    let one : IsProper changed = record {
      declares = λ namespace. end-some
          (λ (entry : String Global × ActionType RawName). action_declared namespace (string_bytes entry.0) (action_body RawName
          (raw_reference namespace) namespace entry.1))
          (common_declarations RawName (raw_reference namespace) namespace definition.common_types.entries
          ++ entity_declarations RawName (raw_reference namespace) namespace definition.entity_types.entries)
          c.put.new.map.entries some;
      applies = rw c.in_ok-put.ensures
          (All-values-insert_entry string_cmp c.args.id c.args.declared AppliesIfDefined entries proper.0 applies);
    } in
    rw is (All-values-insert_entry (option_cmp ((name_ord.ghosts).cmp)) c.args.namespace changed IsProper taken proper.1 one))
    c.put-2.result c.put-2.ensures
