use Rattle.std.proofs.Common.{◌≡◌, ◌∙◌, ◌∷◌, [], List, IfOk, None, ap, refl, subst}
use Rattle.std.proofs.lemmas.List.{append-nil}
use Rattle.std.proofs.lemmas.Result.{IfErr-weaker}
use Rattle.std.specs.List.{flat_map}
use Rattle.std.specs.Option.{option_map}
use Rattle.std.specs.Result.{result_map_both}
use Rattle.cedar_fragments.proofs.NamedOfDefinition.{named_of_only}
use Rattle.cedar_schema.proofs.schema.ValidatorSchema.from_namespace_def.Goals as goal
use Rattle.cedar_schema.specs.Words.{Bag, DefinedNamespace, IsBuiltFrom, LocatedName, NamesAllWithAttributes, Shows, entry_common_names, entry_namespaces, fault_of, located_of, plain_name, raw_declarations, schema_of, written_common_names}

pub returns-clause-built : goal.returns-clause-built
returns-clause-built c =
    let P : Bag → Type 0 = λ bag. IsBuiltFrom bag c.args.extensions.now (result_map_both schema_of fault_of c.from_schema_frag.result) in
    let alone : c.insert.new.self.entries ≡ (None, c.args.definition) ∷ [] =
    rw (c.in_ok-insert.ensures.entries, c.new-definitions.ensures.empty) refl in
    subst P
    (ap (flat_map (λ entry. raw_declarations (option_map plain_name entry.0) entry.1)) alone
    ∙ append-nil (raw_declarations None c.args.definition))
    c.from_schema_frag.ensures.built

pub returns-clause-all_named : goal.returns-clause-all_named
returns-clause-all_named c =
    let alone : c.insert.new.self.entries ≡ (None, c.args.definition) ∷ [] =
    rw (c.in_ok-insert.ensures.entries, c.new-definitions.ensures.empty) refl in
    IfErr-weaker c.from_schema_frag.result _
    (λ error. NamesAllWithAttributes (raw_declarations None c.args.definition) None (fault_of error))
    (λ error. named_of_only (record { 0 = c.insert.new.self }) (None, c.args.definition) alone (fault_of error))
    c.from_schema_frag.ensures.all_named

pub returns-clause-located : goal.returns-clause-located
returns-clause-located c =
    let alone : c.insert.new.self.entries ≡ (None, c.args.definition) ∷ [] =
    rw (c.in_ok-insert.ensures.entries, c.new-definitions.ensures.empty) refl in
    let names = append-nil (flat_map entry_common_names c.insert.new.self.entries)
    ∙ (ap (flat_map entry_common_names) alone ∙ append-nil (written_common_names None c.args.definition.common_types.entries)) in
    let namespaces = append-nil (flat_map entry_namespaces c.insert.new.self.entries) ∙ ap (flat_map entry_namespaces) alone in
    let P : List LocatedName × List DefinedNamespace → Type 0 = λ it.
    IfOk c.from_schema_frag.result (λ schema. Shows it.0 it.1 (located_of schema)) in
    subst P (λ i. (names i, namespaces i)) c.from_schema_frag.ensures.located
