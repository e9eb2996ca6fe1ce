-- A bag that can be written is ill-formed exactly where its text form is, and otherwise both declare
-- the same schemas.
use Rattle.std.proofs.Common.{◌≡◌, ◌↔◌, zero, suc, List, [], ◌∷◌, Option, sym, subst, inl, inr, arith, Contains}
use Rattle.cedar_ast.proofs.Basics.{Contains-single}
use Rattle.cedar_ast.proofs.Chains.{first_step, refined}
use Rattle.cedar_ast.proofs.Lists.{Contains-preimage}
use Rattle.cedar_ast.specs.Words.{Chain, HoldsPairwise, PlainName, Text, TypeNamesFit, extension_types, more, one}
use Rattle.cedar_ast.specs.declared.extension.Extensions.{Extensions}
use Rattle.cedar_schema_ast.specs.Words.{ActionReference, Declaration, Expr, Reference, extension_expr}
use Rattle.cedar_schema_laws.proofs.MovedBags.{definition_moved}
use Rattle.cedar_schema_laws.proofs.MovedLaws.{DependsOnWriting, ElaboratesAlike, NamesAlike, action_parent_moved, counted_moved, fault_moved, names_turned, placed_moved, schema_moved, turned, turns}
use Rattle.cedar_schema_laws.proofs.MovedLemmas.{DeclarationsAlike, Likeness, bags-sym}
use Rattle.cedar_schema_laws.proofs.ReferenceDecisions.{resolves_or_not}
use Rattle.cedar_schema_laws.proofs.ResolutionLaws.{resolved, some_first}
use Rattle.cedar_schema_semantics.specs.Words.{Bag, CountsIn, Defined, Fault, HasToResolve, IsActionParent, IsAtEntityTypePosition, IsDeclaredSchema, IsFault, IsIllFormed, IsUnresolved, NamesAction, NamesNoAction, Names, PlainSchema, Refers, RefersToCommon, ResolvesTo, action_not_defined, action_uids, built_in_types, common_type_cycle, defined_names, definitions, names_of, open_record, type_not_defined, unknown_extension_type}
use Rattle.cedar_schema_text_meaning.proofs.FormsLike.{MentionsKnown, declaration_like, likeness}
use Rattle.cedar_schema_text_meaning.proofs.SameNames.{actions_same, defined_same, first_same, form_free, pairwise_image}
use Rattle.cedar_schema_text_meaning.proofs.TextLikeness.{DefinesLike, IsLike, MeansAsMuch, built_in_refers, common_back, common_forth, elaborated_back, elaborated_forth, extension_back, like_extension, like_long, like_text, like_truth, open_back, open_forth, refers_back, refers_forth, stands_once}
use Rattle.cedar_schema_text_meaning.proofs.UnknownExtensions.{bag_known_or_not, unknown_form_ill, unknown_ill}
use Rattle.cedar_schema_text_meaning.specs.TextForm.{bag_form, declaration_form, first_by}
use Rattle.cedar_schema_text_meaning.specs.TextMeaning.{HasKnownExtensions, TextFormsMeanTheSame}
use Rattle.cedar_schema_text_meaning.specs.WritableBag.{IsUnreserved, IsWritableBag, IsWritableDeclaration}

module _ (bag : Bag) (extensions : Extensions) (fit : TypeNamesFit (extension_types extensions)) (known : HasKnownExtensions extensions)
    (writable : IsWritableBag (first_by bag) bag)
    (mentions : (it : Declaration) → Contains bag it → (ty : Expr) → CountsIn it.body ty → MentionsKnown extensions ty) where
  -- the text form, and what both define
  abbrev forms : Bag
  forms = bag_form bag

  abbrev ours : Defined
  ours = definitions bag extensions

  abbrev theirs : Defined
  theirs = definitions forms extensions

  -- no namespace of the text form is reserved
  free : (it : Declaration) → Contains forms it → IsUnreserved it.namespace
  free = form_free bag (λ it among. (writable it among).namespace)

  -- how they are alike
  abbrev like : Likeness
  like = likeness forms extensions free known fit ours (defined_same bag extensions)

  -- so are their declarations pairwise
  turn : HoldsPairwise (DeclarationsAlike like) bag forms
  turn =
      pairwise_image (DeclarationsAlike like) (declaration_form (first_by bag)) bag
      (λ it among. subst (λ first. DeclarationsAlike like it (declaration_form first it)) (sym (first_same bag))
      (declaration_like forms extensions free known fit ours (defined_same bag extensions) it
      (subst (λ first. IsWritableDeclaration first it) (first_same bag) (writable it among)) (mentions it among)))

  -- and the other way round
  back : HoldsPairwise (DeclarationsAlike (turned like)) forms bag
  back = bags-sym like (turned like) (turns like) bag forms turn

  -- references at the places of entity types, and parents of actions, are the same
  names_alike : NamesAlike like bag forms extensions
  names_alike = record {
    reference = λ it found same name. (
      λ resolves. subst (λ each. ResolvesTo (names_of theirs) each name) same (subst (λ each. ResolvesTo each it name) (defined_same bag extensions) resolves),
      λ resolves. subst (λ each. ResolvesTo each it name) (sym (defined_same bag extensions)) (subst (λ each. ResolvesTo (names_of theirs) each name) (sym same) resolves),
    );
    parent = λ it found same uid. (
      λ names. subst (λ each. NamesAction (action_uids forms) each uid) same (subst (λ each. NamesAction each it uid) (actions_same bag) names),
      λ names. subst (λ each. NamesAction each it uid) (sym (actions_same bag)) (subst (λ each. NamesAction (action_uids forms) each uid) (sym same) names),
    );
  }

  -- and the other way round
  names_back : NamesAlike (turned like) forms bag extensions
  names_back = names_turned like bag forms extensions names_alike

  -- what built-in types stand for is like itself
  built_in_like : (word : Text) (body : Expr) → Contains (built_in_types extensions) (word, body) → IsLike ours theirs body body
  built_in_like word body (zero, below, is) = subst (λ each. IsLike ours theirs each.1 each.1) is like_truth
  built_in_like word body (suc zero, below, is) = subst (λ each. IsLike ours theirs each.1 each.1) is like_long
  built_in_like word body (suc (suc zero), below, is) = subst (λ each. IsLike ours theirs each.1 each.1) is like_text
  built_in_like word body (suc (suc (suc k)), below, is) =
      let found = Contains-preimage (λ (name : PlainName). (name.base, extension_expr name.base)) (extension_types extensions)
      (word, body) (k, omega (arith, below), is) in
      subst (λ each. IsLike ours theirs each.1 each.1) found.2 (like_extension found.0.base)

  -- the same is defined, with definitions that are like each other
  moves : DefinesLike ours theirs
  moves = record {
    common = definition_moved like bag forms extensions turn built_in_like;
    common_back = definition_moved (turned like) forms bag extensions back built_in_like;
    entities = λ name. (
      λ among. subst (λ (each : Names). Contains each.entities name) (defined_same bag extensions) among,
      λ among. subst (λ (each : Names). Contains each.entities name) (sym (defined_same bag extensions)) among,
    );
  }

  -- what is like each other is elaborated as the same
  elaborates : ElaboratesAlike like bag forms extensions
  elaborates it found alike ty written = elaborated_forth ours theirs moves written alike

  -- and the other way round
  elaborates_back : ElaboratesAlike (turned like) forms bag extensions
  elaborates_back found it alike ty written = elaborated_back ours theirs moves written alike

  -- a reference is unresolved where one that means as much is
  unresolved_forth : (reference other : Reference) → MeansAsMuch (names_of ours) (names_of theirs) reference other
      → IsUnresolved (names_of ours) reference → IsUnresolved (names_of theirs) other
  unresolved_forth reference other means unresolved = elim (resolves_or_not (names_of theirs) other) [
    | inl resolves ↦
        absurd (resolved (names_of ours) reference (resolves.0, (means.resolves resolves.0).1 resolves.1) unresolved)
    | inr none ↦ none
  ]

  -- and the other way round
  unresolved_back : (reference other : Reference) → MeansAsMuch (names_of ours) (names_of theirs) reference other
      → IsUnresolved (names_of theirs) other → IsUnresolved (names_of ours) reference
  unresolved_back reference other means unresolved = elim (resolves_or_not (names_of ours) reference) [
    | inl resolves ↦
        absurd (resolved (names_of theirs) other (resolves.0, (means.resolves resolves.0).0 resolves.1) unresolved)
    | inr none ↦ none
  ]

  -- a reference that has to name something and doesn't makes a bag ill-formed
  unresolved_ill : (some : Bag) (reference : Reference) → HasToResolve some reference → IsUnresolved (defined_names some extensions) reference
      → IsIllFormed some extensions
  unresolved_ill some reference has unresolved = (
    type_not_defined (reference ∷ []),
    (
      (λ none. cc),
      λ each among. subst (λ r. HasToResolve some r × IsUnresolved (defined_names some extensions) r) (Contains-single reference each among) (has, unresolved),
    ),
  )

  -- where a reference is undefined in the one, one is in the other
  undefined_forth : (reference : Reference) → HasToResolve bag reference → IsUnresolved (names_of ours) reference → IsIllFormed forms extensions
  undefined_forth reference has unresolved = elim has [
    | inl counts ↦
        let moved = counted_moved bag forms extensions like turn counts.0 counts.1 in
        let other = refers_forth ours theirs moved.2 reference counts.2 in
        unresolved_ill forms other.0 (inl (moved.0, moved.1, other.1)) (unresolved_forth reference other.0 other.2 unresolved)
    | inr placed ↦
        let moved = placed_moved bag forms extensions like turn reference placed in
        unresolved_ill forms reference (inr (subst (IsAtEntityTypePosition forms) (sym moved.2) moved.1))
        (subst (λ each. IsUnresolved each reference) (defined_same bag extensions) unresolved)
  ]

  -- and the other way round
  undefined_back : (other : Reference) → HasToResolve forms other → IsUnresolved (names_of theirs) other → IsIllFormed bag extensions
  undefined_back other has unresolved = elim has [
    | inl counts ↦
        let moved = counted_moved forms bag extensions (turned like) back counts.0 counts.1 in
        elim (refers_back ours theirs moved.2 other counts.2) [
          | inl from ↦ unresolved_ill bag from.0 (inl (moved.0, moved.1, from.1)) (unresolved_back from.0 other from.2 unresolved)
          | inr built ↦ absurd (resolved (names_of theirs) other (built.2.name, built.2.resolves) unresolved)
        ]
    | inr placed ↦
        let moved = placed_moved forms bag extensions (turned like) back other placed in
        unresolved_ill bag other (inr (subst (IsAtEntityTypePosition bag) moved.2 moved.1))
        (subst (λ each. IsUnresolved each other) (sym (defined_same bag extensions)) unresolved)
  ]

  -- a common type of the one refers to another as in the other
  refers_to_forth : (name to : PlainName) → RefersToCommon ours name to → RefersToCommon theirs name to
  refers_to_forth name to (definition, reference, body, among, refers, resolves, is_common) =
      let there = moves.common name definition among in
      let other = refers_forth ours theirs there.2 reference refers in
      let target = common_forth ours theirs moves reference other.0 to body (other.2.kinds to resolves) is_common in
      (there.0, other.0, target.0, there.1, other.1, (other.2.resolves to).0 resolves, target.1)

  -- and the other way round, where that refers to something itself
  refers_to_back : (name to next : PlainName) → RefersToCommon theirs name to → RefersToCommon theirs to next → RefersToCommon ours name to
  refers_to_back name to next (definition, other, found, among, refers, resolves, is_common) further =
      let here = moves.common_back name definition among in
      elim (refers_back ours theirs here.2 other refers) [
        | inl from ↦
            let resolves_here = (from.2.resolves to).1 resolves in
            let target = common_back ours theirs moves from.0 other to found (from.2.kinds to resolves_here) is_common in
            (here.0, from.0, target.0, here.1, from.1, resolves_here, target.1)
        | inr built ↦
            let same = stands_once ours theirs moves other built.0 built.2 to resolves in
            let only : further.0 ≡ built.0 =
            built.2.only further.0 (subst (λ each. Contains theirs.common (each, further.0)) (sym same) further.3) in
            absurd (built_in_refers ours theirs built.0 built.1 further.1 (subst (λ each. Refers each further.1) only further.4))
      ]

  -- so a chain of the other is one of the one, where its end refers to something
  chain_back : (name to : PlainName) → ((next : PlainName) × RefersToCommon theirs to next) → Chain (RefersToCommon theirs) name to
      → Chain (RefersToCommon ours) name to
  chain_back name to next (one step) = one (refers_to_back name to next.0 step next.1)
  chain_back name to next (more {b = between} step rest) =
      let onward = first_step (RefersToCommon theirs) between to rest in
      more (refers_to_back name between onward.0 step onward.1) (chain_back between to next rest)

  -- a parent of an action that names none in the one names none in the other
  unknown_parent : (some others : Bag) (way : Likeness) → HoldsPairwise (DeclarationsAlike way) some others
      → ((it found : ActionReference) → way.parent it found → it ≡ found) → action_uids some ≡ action_uids others
      → (actions : List (Text × Option Reference)) → IsFault some extensions (action_not_defined actions)
      → IsFault others extensions (action_not_defined actions)
  unknown_parent some others way alike same_parent same_actions actions at_fault = (
    at_fault.0,
    λ carried among.
        (let it = at_fault.1 carried among in
        let moved = action_parent_moved some others extensions way alike it.0 it.1 it.2 in (
          it.0,
          it.1,
          subst (IsActionParent others it.0) (sym (same_parent it.1 moved.0 moved.2)) moved.1,
          it.3,
          subst (λ uids. NamesNoAction uids it.1) same_actions it.4,
        )),
  )

  -- a fault of the one that depends on how things are written makes the other ill-formed
  written_forth : (fault : Fault) → DependsOnWriting fault → IsFault bag extensions fault → IsIllFormed forms extensions
  written_forth open_record depends at_fault =
      let moved = counted_moved bag forms extensions like turn at_fault.0 at_fault.1 in
      (open_record, (moved.0, moved.1, open_forth ours theirs moved.2 at_fault.2))
  written_forth (type_not_defined references) depends at_fault =
      let found = some_first references at_fault.0 in
      let has = at_fault.1 found.0 found.1 in
      undefined_forth found.0 has.0 has.1
  written_forth (action_not_defined actions) depends at_fault = (
    action_not_defined actions,
    unknown_parent bag forms like turn (λ it found same. same) (actions_same bag) actions at_fault,
  )
  written_forth (common_type_cycle name) depends at_fault =
      (common_type_cycle name, refined (λ a b step. one (refers_to_forth a b step)) at_fault)
  written_forth (unknown_extension_type name) depends (ty, (it, among, counts), stands, plain, unknown) =
      absurd (unknown (subst (Contains (extension_types extensions)) (λ i. record { base = name.base; path = sym plain i }) (mentions it among ty counts name.base stands)))
  written_forth _ depends at_fault = absurd depends

  -- and the other way round
  written_back : (fault : Fault) → DependsOnWriting fault → IsFault forms extensions fault → IsIllFormed bag extensions
  written_back open_record depends at_fault =
      let moved = counted_moved forms bag extensions (turned like) back at_fault.0 at_fault.1 in
      (open_record, (moved.0, moved.1, open_back ours theirs moved.2 at_fault.2))
  written_back (type_not_defined references) depends at_fault =
      let found = some_first references at_fault.0 in
      let has = at_fault.1 found.0 found.1 in
      undefined_back found.0 has.0 has.1
  written_back (action_not_defined actions) depends at_fault = (
    action_not_defined actions,
    unknown_parent forms bag (turned like) back (λ it found same. sym same) (sym (actions_same bag)) actions at_fault,
  )
  written_back (common_type_cycle name) depends at_fault =
      (common_type_cycle name, chain_back name name (first_step (RefersToCommon theirs) name name at_fault) at_fault)
  written_back (unknown_extension_type name) depends at_fault =
      let moved = counted_moved forms bag extensions (turned like) back at_fault.0 at_fault.1 in
      (unknown_extension_type name, (moved.0, moved.1, extension_back ours theirs moved.2 name.base at_fault.2, at_fault.3, at_fault.4))
  written_back _ depends at_fault = absurd depends

  -- where the one is ill-formed, so is the other
  ill_forth : IsIllFormed bag extensions → IsIllFormed forms extensions
  ill_forth (fault, at_fault) = elim (fault_moved bag forms extensions like turn names_alike elaborates fault at_fault) [
    | inl depends ↦ written_forth fault depends at_fault
    | inr there ↦ (fault, there)
  ]

  -- and the other way round
  ill_back : IsIllFormed forms extensions → IsIllFormed bag extensions
  ill_back (fault, at_fault) = elim (fault_moved forms bag extensions (turned like) back names_back elaborates_back fault at_fault) [
    | inl depends ↦ written_back fault depends at_fault
    | inr here ↦ (fault, here)
  ]

  -- they declare the same schemas
  same_schemas : (schema : PlainSchema) → IsDeclaredSchema bag extensions schema ↔ IsDeclaredSchema forms extensions schema
  same_schemas schema = (
    schema_moved bag forms extensions like turn names_alike elaborates schema,
    schema_moved forms bag extensions (turned like) back names_back elaborates_back schema,
  )

-- a bag and its text form mean the same
pub same_meaning : TextFormsMeanTheSame
same_meaning bag extensions fit known writable = elim (bag_known_or_not extensions bag) [
  | inl mentions ↦ (
    (ill_forth bag extensions fit known writable mentions, ill_back bag extensions fit known writable mentions),
    λ well. same_schemas bag extensions fit known writable mentions,
  )
  | inr unknown ↦
      let ill = unknown_ill extensions bag unknown in (
        (λ any. unknown_form_ill bag extensions known writable unknown, λ any. ill),
        λ well. absurd (well ill),
      )
]
