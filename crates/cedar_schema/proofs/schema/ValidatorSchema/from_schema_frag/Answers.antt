use Rattle.std.proofs.Common.{◌∙◌, ◌++◌, ◌∷◌, [], List, IfErr, IfOk, ap, subst}
use Rattle.std.proofs.lemmas.List.{append-nil}
use Rattle.std.specs.Result.{result_map_both}
use Rattle.cedar_schema.proofs.SchemaKeys.{keys_given}
use Rattle.cedar_schema.proofs.schema.ValidatorSchema.from_schema_frag.Goals as goal
use Rattle.cedar_schema.specs.Words.{Bag, Fragment, IsBuiltFrom, NamesAllOfADefinition, RawName, ShowsWritten, fault_of, located_of, raw_bag, raw_fragment, schema_of}

pub returns-clause-built : goal.returns-clause-built
returns-clause-built c =
    let P : Bag → Type 0 = λ bag. IsBuiltFrom bag c.args.extensions.now (result_map_both schema_of fault_of c.from_raw_fragments.result) in
    subst P
    (ap raw_bag (c.in_ok-push.ensures.items ∙ ap (λ items. items ++ c.args.fragment ∷ []) c.new-fragments.ensures.items)
    ∙ append-nil (raw_fragment c.args.fragment))
    c.from_raw_fragments.ensures.built

pub returns-clause-all_named : goal.returns-clause-all_named
returns-clause-all_named c =
    let P : List (Fragment RawName) → Type 0 = λ fragments.
    IfErr c.from_raw_fragments.result (λ error. NamesAllOfADefinition fragments (fault_of error)) in
    subst P (c.in_ok-push.ensures.items ∙ ap (λ items. items ++ c.args.fragment ∷ []) c.new-fragments.ensures.items)
    c.from_raw_fragments.ensures.all_named

pub returns-clause-located : goal.returns-clause-located
returns-clause-located c =
    let P : List (Fragment RawName) → Type 0 = λ fragments.
    IfOk c.from_raw_fragments.result (λ schema. ShowsWritten fragments (located_of schema)) in
    subst P (c.in_ok-push.ensures.items ∙ ap (λ items. items ++ c.args.fragment ∷ []) c.new-fragments.ensures.items)
    c.from_raw_fragments.ensures.located

pub returns-clause-keys : goal.returns-clause-keys
returns-clause-keys c = keys_given _ c.from_raw_fragments.result c.from_raw_fragments.ensures.located
