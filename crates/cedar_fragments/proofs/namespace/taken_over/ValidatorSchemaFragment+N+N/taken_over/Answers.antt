use Rattle.std.proofs.Common.{◌≡◌, ◌∙◌, [], ◌∷◌, Option, ap, inl, refl}
use Rattle.cedar_ast.proofs.Lists.{Contains-cons}
use Rattle.cedar_fragments.proofs.FragmentLemmas.{refusal_included, flat_map-included, flat_map-each, flat_map-same}
use Rattle.cedar_fragments.proofs.ListedFromEnd.{ListedFromEnd-more, ListedFromEnd-none, each_from_end, next_from_end, none_left, same_from_end}
use Rattle.cedar_fragments.proofs.NamedOfDefinition.{named_of_definition}
use Rattle.cedar_fragments.proofs.SoundLemmas.{sound_bag}
use Rattle.cedar_fragments.proofs.namespace.taken_over.ValidatorSchemaFragment+N+N.taken_over.Goals as goal
use Rattle.cedar_fragments.specs.Words.{IsSound, Name, NamespaceDefinition, RawName, definition_common_names, definition_namespaces, entry_common_names, entry_declarations, entry_namespace, entry_namespaces, fault_of, located_namespace, named_namespace, raw_fragment, written_common_names, written_definition}
use Rattle.cedar_name_resolution.proofs.ExitLemmas.{exit_holds}

-- at first no definition is converted
pub loop-name-init : goal.loop-name-init
loop-name-init g c =
    let nothing = c.in_ok-definitions.ensures.items in (
      ListedFromEnd-none _ _ _ _ _ nothing,
      ListedFromEnd-none _ _ _ _ _ nothing,
      ListedFromEnd-none _ _ _ _ _ nothing,
      ListedFromEnd-none _ _ _ _ _ nothing,
    )

-- the fault of a definition is one of the fragment
pub returns-in_err-taken_over-clause-fault : goal.returns-in_err-taken_over-clause-fault
returns-in_err-taken_over-clause-fault g c =
    let entry : Option Name × NamespaceDefinition RawName = (c.in-Some.name, c.in-Some.written) in
    let fault = fault_of c.in_err-taken_over.field-0.0 in
    let among = next_from_end _ _ _ c.args.fragment.0.entries _ c.pop_last.new.self.entries _ entry c.in-Some.ensures.removal
    c.loop-name.invariant.0 in
    exit_holds _ _ _ c.from_residual-in_err-taken_over.ensures.1
    (refusal_included (entry_declarations entry) (raw_fragment c.args.fragment)
    (flat_map-included entry_declarations c.args.fragment.0.entries entry among) fault
    (rw c.internal_namespace-namespace.ensures.name at c.in_err-taken_over.ensures.fault))

-- and it names all that it has to name
pub returns-in_err-taken_over-clause-all_named : goal.returns-in_err-taken_over-clause-all_named
returns-in_err-taken_over-clause-all_named g c =
    let entry : Option Name × NamespaceDefinition RawName = (c.in-Some.name, c.in-Some.written) in
    let fault = fault_of c.in_err-taken_over.field-0.0 in
    let among = next_from_end _ _ _ c.args.fragment.0.entries _ c.pop_last.new.self.entries _ entry c.in-Some.ensures.removal
    c.loop-name.invariant.0 in
    exit_holds _ _ _ c.from_residual-in_err-taken_over.ensures.1
    (named_of_definition (c.args.fragment ∷ []) c.args.fragment entry (Contains-cons c.args.fragment [] c.args.fragment (inl refl)) among fault
    (rw c.internal_namespace-namespace.ensures.name at c.in_err-taken_over.ensures.all_named))

-- one more definition keeps its declarations, names and locations
pub loop-name-preserved : goal.loop-name-preserved
loop-name-preserved g c =
    let entry : Option Name × NamespaceDefinition RawName = (c.in-Some.name, c.in-Some.written) in
    let named = c.internal_namespace-namespace.ensures.name in
    let names : definition_common_names g.row.N.Denot g.row.N.Denot c.in_ok-taken_over.field-0 ≡ entry_common_names entry =
    c.in_ok-taken_over.ensures.common_types
    ∙ ap (λ namespace. written_common_names namespace c.in-Some.written.common_types.entries) named in
    let namespaces : definition_namespaces g.row.N.Denot g.row.N.Denot c.in_ok-taken_over.field-0 ≡ entry_namespaces entry =
    λ i. named_namespace ((c.in_ok-taken_over.ensures.name ∙ c.internal_namespace-namespace.ensures.located) i)
    (c.in_ok-taken_over.ensures.loc i) in
    let located : located_namespace g.row.N.Denot g.row.N.Denot c.in_ok-taken_over.field-0 ≡ entry_namespace entry =
    λ i. record {
      name = (c.in_ok-taken_over.ensures.name ∙ c.internal_namespace-namespace.ensures.located) i;
      def_loc = c.in_ok-taken_over.ensures.loc i;
    } in (
      ListedFromEnd-more _ _ _ _ _ c.pop_last.new.self.entries _ _ entry _ c.in-Some.ensures.removal
          c.in_ok-push.ensures.items
          (rw named at c.in_ok-taken_over.ensures.declarations)
          (rw named at c.in_ok-taken_over.ensures.sound) c.loop-name.invariant.0,
      ListedFromEnd-more _ _ _ _ _ c.pop_last.new.self.entries _ _ entry _ c.in-Some.ensures.removal
          c.in_ok-push.ensures.items names tt c.loop-name.invariant.1,
      ListedFromEnd-more _ _ _ _ _ c.pop_last.new.self.entries _ _ entry _ c.in-Some.ensures.removal
          c.in_ok-push.ensures.items namespaces tt c.loop-name.invariant.2,
      ListedFromEnd-more _ _ _ _ _ c.pop_last.new.self.entries _ _ entry _ c.in-Some.ensures.removal
          c.in_ok-push.ensures.items located tt c.loop-name.invariant.3,
    )

-- at the end all definitions are converted
pub returns-clause-declarations : goal.returns-clause-declarations
returns-clause-declarations g c =
    flat_map-same (written_definition g.row.N.Denot g.N.WrittenName.refer) entry_declarations _ _ (same_from_end _ _ _ _ _ _ _ (none_left c.loop-name.named.entries c.in_default.ensures.variant.1)
    c.reverse.ensures.items c.loop-name.invariant.0)

-- also definition by definition
pub returns-clause-pairwise : goal.returns-clause-pairwise
returns-clause-pairwise g c =
    same_from_end _ _ _ _ _ _ _ (none_left c.loop-name.named.entries c.in_default.ensures.variant.1) c.reverse.ensures.items
    c.loop-name.invariant.0

-- with the locations of their namespaces
pub returns-clause-located : goal.returns-clause-located
returns-clause-located g c =
    same_from_end _ _ _ _ _ _ _ (none_left c.loop-name.named.entries c.in_default.ensures.variant.1) c.reverse.ensures.items
    c.loop-name.invariant.3

-- each declaration is sound
pub returns-clause-sound : goal.returns-clause-sound
returns-clause-sound g c =
    flat_map-each entry_declarations IsSound _ (each_from_end _ _ _ _ _ _ (none_left c.loop-name.named.entries c.in_default.ensures.variant.1)
    c.loop-name.invariant.0)

-- and so the fragment has no fault
pub returns-clause-no_fault : goal.returns-clause-no_fault
returns-clause-no_fault g c =
    sound_bag (raw_fragment c.args.fragment)
    (flat_map-each entry_declarations IsSound _ (each_from_end _ _ _ _ _ _ (none_left c.loop-name.named.entries c.in_default.ensures.variant.1)
    c.loop-name.invariant.0))

-- the common types of all are named where they were written
pub returns-clause-common_types : goal.returns-clause-common_types
returns-clause-common_types g c =
    flat_map-same (definition_common_names g.row.N.Denot g.row.N.Denot) entry_common_names _ _ (same_from_end _ _ _ _ _ _ _
    (none_left c.loop-name.named.entries c.in_default.ensures.variant.1) c.reverse.ensures.items c.loop-name.invariant.1)

-- and so are the namespaces
pub returns-clause-namespaces : goal.returns-clause-namespaces
returns-clause-namespaces g c =
    flat_map-same (definition_namespaces g.row.N.Denot g.row.N.Denot) entry_namespaces _ _ (same_from_end _ _ _ _ _ _ _
    (none_left c.loop-name.named.entries c.in_default.ensures.variant.1) c.reverse.ensures.items c.loop-name.invariant.2)
