-- Resolving the references of a bag changes none of its faults, and no schema that it declares.
use Rattle.std.proofs.Common.{◌≡◌, ◌≢◌, zero, suc, List, [], ◌∷◌, subst, refl, inl, inr, arith, Contains}
use Rattle.cedar_ast.proofs.Chains.{refined}
use Rattle.cedar_ast.proofs.Lists.{Contains-cons, Contains-preimage}
use Rattle.cedar_ast.proofs.TurnLemmas.{turn_weaker}
use Rattle.cedar_schema_laws.proofs.MeaningLemmas.{AreAlike, MovesTo, alike_extension, alike_long, alike_text, alike_truth, elaborated_alike, extension_alike, open_alike, refers_alike}
use Rattle.cedar_schema_laws.proofs.MovedBags.{KeepsBuiltIns, aliases_same, definition_moved, names_same}
use Rattle.cedar_schema_laws.proofs.MovedLaws.{DependsOnWriting, ElaboratesAlike, NamesAlike, action_parent_moved, counted_moved, fault_moved, placed_moved, schema_moved}
use Rattle.cedar_schema_laws.proofs.MovedLemmas.{DeclarationsAlike, Likeness, bags-sym, by_meaning, by_meaning-sym, resolved_declaration}
use Rattle.cedar_schema_laws.specs.Words.{ActionReference, Bag, Extensions, Fault, HasToResolve, HoldsPairwise, IsActionParent, IsDeclaredSchema, IsFault, IsFirst, IsUnresolved, Names, NamesAction, NamesNoAction, PlainName, PlainSchema, PlainUid, Reference, RefersToCommon, ResolutionChangesNothing, ResolvesBag, ResolvesDeclaration, ResolvesTo, action_not_defined, action_uids, aliases, common_type_cycle, defined_names, definitions, extension_expr, extension_types, one, open_record, type_not_defined, unknown_extension_type}
use Rattle.cedar_schema_semantics.proofs.ResolutionLemmas.{first_defined}

-- some list isn't none
pub some_first : {A : Type 0} (items : List A) → items ≢ [] → (item : A) × Contains items item
some_first [] some = absurd (some refl)
some_first (first ∷ rest) some = (first, Contains-cons first rest first (inl refl))

-- what a reference resolves to is among its possibilities and defined, so it isn't unresolved
pub resolved : (names : Names) (reference : Reference) → ((name : PlainName) × ResolvesTo names reference name)
    → ¬ IsUnresolved names reference
resolved names reference (name, resolves) unresolved =
    let found = first_defined names reference.kind reference.possibilities name resolves in unresolved name found.0 found.1

-- a reference to an action that names one doesn't name none
pub named : (actions : List PlainUid) (reference : ActionReference) → ((uid : PlainUid) × NamesAction actions reference uid)
    → ¬ NamesNoAction actions reference
named actions reference (uid, names) none = by reference.ty.possibilities names.0 none where
  by : (xs : List PlainName) → IsFirst (λ ty. Contains actions (record { ty = ty; eid = reference.id })) xs uid.ty
      → ¬ ((ty : PlainName) → Contains xs ty → ¬ Contains actions (record { ty = ty; eid = reference.id }))
  by [] first nothing = first
  by (x ∷ xs) first nothing =
      elim first [
        | inl here ↦ nothing x (Contains-cons x xs x (inl refl)) here.1
        | inr later ↦ by xs later.1 (λ ty among. nothing ty (Contains-cons x xs ty (inr among)))
      ]

-- what built-in types stand for is alike itself
keeps_built_ins : (names others : Names) (extensions : Extensions) → KeepsBuiltIns (by_meaning names others) extensions
keeps_built_ins names others extensions word body (zero, below, is) =
    subst (λ each. AreAlike names others each.1 each.1) is alike_truth
keeps_built_ins names others extensions word body (suc zero, below, is) =
    subst (λ each. AreAlike names others each.1 each.1) is alike_long
keeps_built_ins names others extensions word body (suc (suc zero), below, is) =
    subst (λ each. AreAlike names others each.1 each.1) is alike_text
keeps_built_ins names others extensions word body (suc (suc (suc k)), below, is) =
    let found = Contains-preimage (λ name. (name.base, extension_expr name.base)) (extension_types extensions)
    (word, body) (k, omega (arith, below), is) in
    subst (λ each. AreAlike names others each.1 each.1) found.2 (alike_extension found.0.base)

-- a bag and another are alike by meaning, each over the names that it defines
abbrev MeanAlike : Bag → Bag → Extensions → Type 0
MeanAlike bag other extensions =
    HoldsPairwise (DeclarationsAlike (by_meaning (defined_names bag extensions) (defined_names other extensions))) bag other

-- and so the other way round
reversed : (bag other : Bag) (extensions : Extensions) → MeanAlike bag other extensions → MeanAlike other bag extensions
reversed bag other extensions =
    let ours = defined_names bag extensions in
    let theirs = defined_names other extensions in
    bags-sym (by_meaning ours theirs) (by_meaning theirs ours) (by_meaning-sym ours theirs) bag other

module _ (bag other : Bag) (extensions : Extensions) (turn : MeanAlike bag other extensions) where
  -- the names of the one, and of the other
  abbrev ours : Names
  ours = defined_names bag extensions

  abbrev theirs : Names
  theirs = defined_names other extensions

  -- how they are alike
  abbrev like : Likeness
  like = by_meaning ours theirs

  -- what the one defines the other does
  moves : MovesTo (definitions bag extensions) (definitions other extensions)
  moves = record {
    common = definition_moved like bag other extensions turn (keeps_built_ins ours theirs extensions);
    common_back = λ name found among.
        let body = definition_moved (by_meaning theirs ours) other bag extensions (reversed bag other extensions turn)
        (keeps_built_ins theirs ours extensions) name found among in
        (body.0, body.1);
    entities = λ name among. subst (λ names. Contains names.entities name) (names_same like bag other turn extensions) among;
  }

  -- references that are alike resolve to the same
  names_alike : NamesAlike like bag other extensions
  names_alike = record { reference = λ it found alike. alike.1; parent = λ it found alike. alike.1 }

  -- what is alike is elaborated as the same
  elaborates : ElaboratesAlike like bag other extensions
  elaborates it found alike ty written =
      elaborated_alike (definitions bag extensions) (definitions other extensions) moves written alike

  -- what has to resolve does
  has_to_resolves : (reference : Reference) → HasToResolve bag reference → (name : PlainName) × ResolvesTo ours reference name
  has_to_resolves reference has =
      elim has [
        | inl counts ↦ (refers_alike ours theirs (counted_moved bag other extensions like turn counts.0 counts.1).2 reference counts.2).2.2
        | inr placed ↦ (placed_moved bag other extensions like turn reference placed).2.2
      ]

  -- a common type of the one refers to another as in the other
  refers_moved : (name to : PlainName) → RefersToCommon (definitions bag extensions) name to
      → RefersToCommon (definitions other extensions) name to
  refers_moved name to (definition, reference, body, among, refers, resolves, is_common) =
      let there = moves.common name definition among in
      let found = refers_alike ours theirs there.2 reference refers in
      let target = moves.common to body is_common.1 in (
        there.0,
        found.0,
        target.0,
        there.1,
        found.1,
        (found.2.1 to).0 resolves,
        (rw found.2.0 at is_common.0, target.1),
      )

  -- a fault that depends on how things are written is one of the other
  written_moved : (fault : Fault) → DependsOnWriting fault → IsFault bag extensions fault → IsFault other extensions fault
  written_moved open_record depends at_fault =
      let counted = counted_moved bag other extensions like turn at_fault.0 at_fault.1 in
      (counted.0, counted.1, open_alike ours theirs counted.2 at_fault.2)
  written_moved (type_not_defined references) depends at_fault =
      let found = some_first references at_fault.0 in
      let has = at_fault.1 found.0 found.1 in
      absurd (resolved ours found.0 (has_to_resolves found.0 has.0) has.1)
  written_moved (action_not_defined actions) depends at_fault =
      let found = some_first actions at_fault.0 in
      let unknown = at_fault.1 found.0 found.1 in
      absurd (named ours.actions unknown.1 (action_parent_moved bag other extensions like turn unknown.0 unknown.1 unknown.2).2.2 unknown.4)
  written_moved (common_type_cycle name) depends at_fault = refined (λ a b step. one (refers_moved a b step)) at_fault
  written_moved (unknown_extension_type name) depends at_fault =
      let counted = counted_moved bag other extensions like turn at_fault.0 at_fault.1 in
      (counted.0, counted.1, extension_alike ours theirs counted.2 name.base at_fault.2, at_fault.3, at_fault.4)
  written_moved _ depends at_fault = absurd depends

  -- a fault of the one is one of the other
  resolution_fault : (fault : Fault) → IsFault bag extensions fault → IsFault other extensions fault
  resolution_fault fault at_fault =
      elim (fault_moved bag other extensions like turn names_alike elaborates fault at_fault) [
        | inl depends ↦ written_moved fault depends at_fault
        | inr there ↦ there
      ]

  -- a schema that the one declares the other does
  resolution_schema : (schema : PlainSchema) → IsDeclaredSchema bag extensions schema → IsDeclaredSchema other extensions schema
  resolution_schema = schema_moved bag other extensions like turn names_alike elaborates

-- a bag and the resolved one are alike pairwise
resolved_alike : (bag resolved : Bag) (extensions : Extensions) → ResolvesBag (defined_names bag extensions) bag resolved
    → HoldsPairwise (DeclarationsAlike (by_meaning (defined_names bag extensions) (defined_names bag extensions))) bag resolved
resolved_alike bag resolved extensions =
    let names = defined_names bag extensions in
    turn_weaker (ResolvesDeclaration names) (DeclarationsAlike (by_meaning names names)) (resolved_declaration names) bag resolved

-- each over the names that it defines too
resolved_turn : (bag resolved : Bag) (extensions : Extensions) → ResolvesBag (defined_names bag extensions) bag resolved
    → MeanAlike bag resolved extensions
resolved_turn bag resolved extensions it =
    let names = defined_names bag extensions in
    let alike = resolved_alike bag resolved extensions it in
    subst (λ others. HoldsPairwise (DeclarationsAlike (by_meaning names others)) bag resolved)
    (names_same (by_meaning names names) bag resolved alike extensions) alike

-- resolving the references of a bag changes nothing
pub resolution : ResolutionChangesNothing
resolution bag resolved extensions it =
    let turn = resolved_turn bag resolved extensions it in
    let back = reversed bag resolved extensions turn in (
      λ fault. (resolution_fault bag resolved extensions turn fault, resolution_fault resolved bag extensions back fault),
      λ schema. (resolution_schema bag resolved extensions turn schema, resolution_schema resolved bag extensions back schema),
    )

module _ (bag resolved : Bag) (extensions : Extensions) (it : ResolvesBag (defined_names bag extensions) bag resolved) where
  -- what has to name something in the resolved bag does
  pub resolved_still_resolves : (reference : Reference) → HasToResolve resolved reference
      → (name : PlainName) × ResolvesTo (defined_names resolved extensions) reference name
  resolved_still_resolves = has_to_resolves resolved bag extensions (reversed bag resolved extensions (resolved_turn bag resolved extensions it))

  -- a parent of an action in the resolved bag names one
  pub resolved_parent_names : (uid : PlainUid) (parent : ActionReference) → IsActionParent resolved uid parent
      → (upper : PlainUid) × NamesAction (action_uids resolved) parent upper
  resolved_parent_names uid parent is =
      (action_parent_moved resolved bag extensions (by_meaning (defined_names resolved extensions) (defined_names bag extensions))
      (reversed bag resolved extensions (resolved_turn bag resolved extensions it)) uid parent is).2.2

  -- it defines what the bag does
  pub resolved_defines : defined_names bag extensions ≡ defined_names resolved extensions
  resolved_defines =
      let names = defined_names bag extensions in names_same (by_meaning names names) bag resolved (resolved_alike bag resolved extensions it) extensions

  -- it has the bag's aliases
  pub resolved_aliases : aliases bag extensions ≡ aliases resolved extensions
  resolved_aliases =
      let names = defined_names bag extensions in aliases_same (by_meaning names names) bag resolved (resolved_alike bag resolved extensions it) extensions
