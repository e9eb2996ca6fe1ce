-- Nodes that are collected in a map one after another.
use Rattle.std.proofs.Common.{◌≡◌, ◌⊎◌, ◌↔◌, map, if◌then◌else◌, List, [], ◌∷◌, ◌++◌, Bool, true, false, IsTrue, Option, None, Some, ap, sym, ◌∙◌, refl, inl, inr, arith, append_assoc, Contains}
use Rattle.std.proofs.lemmas.Bool.{false≢true}
use Rattle.std.proofs.lemmas.List.{append-nil}
use Rattle.std.proofs.lemmas.List.Elements.{Contains-append_cases, Contains-append_right}
use Rattle.std.specs.List.{flat_map}
use Rattle.cedar_ast.proofs.Basics.{Contains-single}
use Rattle.cedar_builder.specs.Words.{Fault, IsCollected, IsCollectedAt, IsCollectingFault, IsDefinedAt, IsPut, SaysIf, SaysTogether, Twice, at_key, defined_in, definition_in}
use Rattle.cedar_schema_semantics.proofs.Definitions.{Definitions, defined_again, defined_is_declared, key_cases, key_defined, once_more, said_definition, said_of_external, said_of_new, said_of_other}

-- a declaration that is a definition is what it gives
pub given : {A : Type 0} (b : Bool) (it : A) → b ≡ true → Contains (if b then it ∷ [] else []) it
given true it is = (0, omega arith, refl)
given false it is = absurd (false≢true is)

-- and it gives nothing else
pub only : {A : Type 0} (b : Bool) (it entry : A) → Contains (if b then it ∷ [] else []) entry → (it ≡ entry) × (b ≡ true)
only true it entry here = (Contains-single it entry here, refl)
only false it entry here = absurd (omega (arith, here.1))

-- and it once
pub single : {Name Body : Type 0} (b : Bool) (it : Name × Body) (other : Name)
    → ¬ Twice (map (λ each. each.0) (if b then it ∷ [] else [])) other
single true it other twice = elim twice [ inl here ↦ omega (arith, here.1.1) | inr later ↦ later ]
single false it other twice = twice

-- a test is passed or not
pub decided : (b : Bool) → (b ≡ true) ⊎ ¬ (b ≡ true)
decided true = inl refl
decided false = inr (λ is. false≢true is)

module _ {Name Body : Type 0} (is_definition : Body → Bool) (entries : List (Name × Body)) (name : Name) (body : Body) where
  -- what is said of a definition, and of any other
  pub says_itself : (b : Bool) → b ≡ true
      → SaysIf is_definition b entries name body ↔ Contains (flat_map (definition_in is_definition) entries) (name, body)
  says_itself true is = (λ says. says, λ among. among)
  says_itself false is = absurd (false≢true is)

  pub says_declared : (b : Bool) → ¬ (b ≡ true) → SaysIf is_definition b entries name body
      ↔ (Contains (map (λ it. it.0) entries) name × ¬ Contains (defined_in is_definition entries) name)
  says_declared true other = absurd (other refl)
  says_declared false other = (λ says. says, λ both. both)

-- definitions among declarations, by a test
abbrev pub by_test : {Name Body : Type 0} → (Body → Bool) → Definitions Name Body
by_test is_definition = record {
  definition_in = λ name body. definition_in is_definition (name, body);
  IsDefinition = λ body. is_definition body ≡ true;
  decided = λ body. decided (is_definition body);
  given = λ name body is. given (is_definition body) (name, body) is;
  only = λ name body entry among. only (is_definition body) (name, body) entry among;
  single = λ name body other. single (is_definition body) (name, body) other;
  Says = SaysTogether is_definition;
  says_itself = λ entries name body is. says_itself is_definition entries name body (is_definition body) is;
  says_declared = λ entries name body other. says_declared is_definition entries name body (is_definition body) other;
}

module _ {K Name Body Node : Type 0} (is_definition : Body → Bool) (IsExternal : Node → Type 0)
    (node_name : Node → Name) (Gives : Body → Node → Type 0) (eq : K → K → Bool) (key_name : K → Name) (IsSound : Body → Type 0) where
  -- some declarations are collected in the map, and others are left
  pub record CollectedSoFar (all : List (Name × Body)) (nodes : List (K × Node)) (left : List (Name × Body)) : Type 0 where
    pub done : List (Name × Body)
    pub split : all ≡ done ++ left
    pub collected : (key : K) → IsCollectedAt is_definition IsExternal node_name Gives done (key_name key) (at_key eq nodes key)
    pub once : (name : Name) → ¬ Twice (defined_in is_definition done) name
    pub sound : (name : Name) (body : Body) → Contains done (name, body) → IsSound body

module _ {Name Body Node : Type 0} (is_definition : Body → Bool) (IsExternal : Node → Type 0) (node_name : Node → Name)
    (Gives : Body → Node → Type 0) where
  abbrev At : List (Name × Body) → Name → Option Node → Type 0
  At = IsCollectedAt is_definition IsExternal node_name Gives

  abbrev definitions : Definitions Name Body
  definitions = by_test is_definition

  -- what isn't defined is said where nothing is defined
  said_undefined : (entries : List (Name × Body)) (name : Name) (body : Body) → is_definition body ≡ false
      → SaysTogether is_definition entries name body → ¬ Contains (defined_in is_definition entries) name
  said_undefined entries name body other says =
      ((says_declared is_definition entries name body (is_definition body) (λ is. false≢true (sym other ∙ is))).0 says).1

  -- a node that isn't external is made of a definition
  definition_given : (body : Body) (it : Node) → IsExternal it ↔ (is_definition body ≡ false) → ¬ IsExternal it → is_definition body ≡ true
  definition_given body it told other = by (is_definition body) (λ is. other (told.1 is)) where
    by : (b : Bool) → ¬ (b ≡ false) → b ≡ true
    by true none = refl
    by false none = absurd (none refl)

  module _ (entries : List (Name × Body)) (name : Name) (body : Body) (it : Node) (is_named : node_name it ≡ name)
      (gives : Gives body it) (told : IsExternal it ↔ (is_definition body ≡ false)) where
    abbrev More : List (Name × Body)
    More = entries ++ (name, body) ∷ []

    -- what stands at another name is still what is said
    pub collected_other : (other : Name) → ¬ (other ≡ name) → (stands : Option Node)
        → At entries other stands → At More other stands
    collected_other other apart None none = λ among. elim (key_cases definitions entries name body other among) [ inl here ↦ none here | inr last ↦ apart (sym last) ]
    collected_other other apart (Some old) collected = record {
      body = collected.body;
      says = said_of_other definitions entries name body other apart collected.body collected.says;
      name = collected.name;
      given = collected.given;
      external = collected.external;
    }

    -- the new node is what is said, where the name was not defined
    new_collected : ¬ Contains (defined_in is_definition entries) name → IsCollected is_definition IsExternal node_name Gives More name it
    new_collected none = record {
      body = body;
      says = said_of_new definitions entries name body none;
      name = is_named;
      given = gives;
      external = told;
    }

    -- what is put at the name is what is said
    pub collected_put : (before after : Option Node) → At entries name before → IsPut IsExternal it before after
        → At More name after
    collected_put None after none put =
        rw put (new_collected (λ defined. none (defined_is_declared definitions entries name defined)))
    collected_put (Some old) after collected put = elim put [
      | inl kept ↦
          let stays : IsCollected is_definition IsExternal node_name Gives More name old = record {
            body = collected.body;
            says = said_of_external definitions entries name body (λ is. false≢true (sym (told.0 kept.0) ∙ is)) collected.body collected.says;
            name = collected.name;
            given = collected.given;
            external = collected.external;
          } in
          rw kept.1 stays
      | inr replaced ↦ rw replaced.2
          (new_collected (said_undefined entries name collected.body (collected.external.0 replaced.1) collected.says))
    ]

    -- a definition that is put at the name is its first
    pub undefined_before : (before after : Option Node) → At entries name before → IsPut IsExternal it before after
        → is_definition body ≡ true → ¬ Contains (defined_in is_definition entries) name
    undefined_before None after none put is = λ defined. none (defined_is_declared definitions entries name defined)
    undefined_before (Some old) after collected put is = elim put [
      | inl kept ↦ absurd (false≢true (sym (told.0 kept.0) ∙ is))
      | inr replaced ↦ said_undefined entries name collected.body (collected.external.0 replaced.1) collected.says
    ]

    -- what stands at the name and isn't external is defined
    pub defined_before : (before : Option Node) → At entries name before → IsDefinedAt IsExternal before
        → Contains (defined_in is_definition entries) name
    defined_before None none there = absurd there
    defined_before (Some old) collected there =
        let is = definition_given collected.body old collected.external there in
        key_defined definitions entries name collected.body is (said_definition definitions entries name collected.body is collected.says)

  module _ {K : Type 0} (eq : K → K → Bool) (key_name : K → Name) (IsSound : Body → Type 0)
      (same_key : (a b : K) → IsTrue (eq a b) ↔ (key_name a ≡ key_name b)) (all : List (Name × Body)) where
    -- at first none is
    pub collected_none : (nodes : List (K × Node)) (left : List (Name × Body)) → nodes ≡ [] → left ≡ all
        → CollectedSoFar is_definition IsExternal node_name Gives eq key_name IsSound all nodes left
    collected_none nodes left empty same =
        record {
          done = [];
          split = sym same;
          collected = rw empty (λ key among. omega (arith, among.1));
          once = λ name twice. twice;
          sound = λ name body among. absurd (omega (arith, among.1));
        }

    module _ (old : List (K × Node)) (left rest : List (Name × Body)) (key : K) (body : Body) (is : left ≡ (key_name key, body) ∷ rest)
        (so_far : CollectedSoFar is_definition IsExternal node_name Gives eq key_name IsSound all old left) where
      -- all are those that are done, the next one, and the rest
      next_split : all ≡ so_far.done ++ (key_name key, body) ∷ rest
      next_split = so_far.split ∙ ap (λ others. so_far.done ++ others) is

      -- what the next one is refused for, the declarations are
      pub next_fault : (IsBodyFault : K → Body → Fault → Type 0) (duplicate : Name → Fault) (fault : Fault)
          → IsBodyFault key body fault → IsCollectingFault is_definition key_name IsBodyFault duplicate all fault
      next_fault IsBodyFault duplicate fault refused = inr (inl (
        key,
        body,
        rw next_split
            (Contains-append_right so_far.done ((key_name key, body) ∷ rest) (key_name key, body) (0, omega arith, refl)),
        refused,
      ))

      module _ (new : List (K × Node)) (it : Node) (is_named : node_name it ≡ key_name key) (gives : Gives body it)
          (told : IsExternal it ↔ (is_definition body ≡ false)) where
        abbrev Done : List (Name × Body)
        Done = so_far.done ++ (key_name key, body) ∷ []

        -- at each name stands what is said, once the next one is put at its own
        collected_at : ((other : K) → ¬ (key_name other ≡ node_name it) → at_key eq new other ≡ at_key eq old other)
            → ((other : K) → key_name other ≡ node_name it → IsPut IsExternal it (at_key eq old other) (at_key eq new other))
            → (other : K) (b : Bool) → eq other key ≡ b → At Done (key_name other) (at_key eq new other)
        collected_at stays put other true is_it =
            let same : key_name other ≡ key_name key = (same_key other key).0 is_it in
            rw same
            (collected_put so_far.done (key_name key) body it is_named gives told (at_key eq old other) (at_key eq new other)
            (rw same at (so_far.collected other))
            (put other (same ∙ sym (is_named))))
        collected_at stays put other false is_not =
            let apart : ¬ (key_name other ≡ key_name key) = λ same. false≢true (sym is_not ∙ (same_key other key).1 same) in
            rw (stays other (λ same. apart (same ∙ is_named)))
            (collected_other so_far.done (key_name key) body it is_named gives told (key_name other) apart (at_key eq old other) (so_far.collected other))

        -- one more is
        pub collected_more : IsSound body
            → ((other : K) → ¬ (key_name other ≡ node_name it) → at_key eq new other ≡ at_key eq old other)
            → ((other : K) → key_name other ≡ node_name it → IsPut IsExternal it (at_key eq old other) (at_key eq new other))
            → CollectedSoFar is_definition IsExternal node_name Gives eq key_name IsSound all new rest
        collected_more sound stays put = record {
          done = Done;
          split = next_split ∙ sym (append_assoc so_far.done ((key_name key, body) ∷ []) rest);
          collected = λ other. collected_at stays put other (eq other key) refl;
          once = once_more definitions so_far.done (key_name key) body so_far.once
              (undefined_before so_far.done (key_name key) body it is_named gives told (at_key eq old key) (at_key eq new key) (so_far.collected key)
              (put key (sym (is_named))));
          sound = λ name of_it among. elim (Contains-append_cases so_far.done ((key_name key, body) ∷ []) (name, of_it) among) [
            | inl before ↦ so_far.sound name of_it before
            | inr last ↦ rw (ap (λ (each : Name × Body). each.1) (Contains-single (key_name key, body) (name, of_it) last)) at sound
          ];
        }

        -- a definition of a name under which one stands is refused truly
        pub twice_fault : (IsBodyFault : K → Body → Fault → Type 0) (duplicate : Name → Fault) (fault : Fault)
            → fault ≡ duplicate (node_name it) → (other : K)
            → key_name other ≡ node_name it → IsDefinedAt IsExternal (at_key eq old other) → ¬ IsExternal it
            → IsCollectingFault is_definition key_name IsBodyFault duplicate all fault
        twice_fault IsBodyFault duplicate fault is_fault other same there defined =
            let its_name = is_named in
            let twice : Twice (defined_in is_definition all) (key_name key) =
            rw next_split
            (defined_again definitions so_far.done rest (key_name key) body (definition_given body it told defined)
            (defined_before so_far.done (key_name key) body it is_named gives told (at_key eq old other)
            (rw (same, its_name) at (so_far.collected other)) there)) in
            inr (inr (key_name key, is_fault ∙ ap duplicate its_name, twice))

    module _ (nodes : List (K × Node)) (left : List (Name × Body)) (none : left ≡ [])
        (so_far : CollectedSoFar is_definition IsExternal node_name Gives eq key_name IsSound all nodes left) where
      -- at last all are
      collected_all : so_far.done ≡ all
      collected_all = sym (so_far.split ∙ ap (λ others. so_far.done ++ others) none ∙ append-nil so_far.done)

      -- so at each name stands what is said of all
      pub all_collected : (key : K) → At all (key_name key) (at_key eq nodes key)
      all_collected key = rw collected_all at (so_far.collected key)

      -- no name has two definitions
      pub all_once : (name : Name) → ¬ Twice (defined_in is_definition all) name
      all_once name = rw collected_all at (so_far.once name)

      -- and all are sound
      pub all_sound : (name : Name) (body : Body) → Contains all (name, body) → IsSound body
      all_sound name body among = so_far.sound name body (rw collected_all among)
