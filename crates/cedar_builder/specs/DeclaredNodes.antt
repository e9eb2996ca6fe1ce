-- What the private steps promise of what is declared, entity types and actions alike: as nodes of a
-- graph, which stand under their names, as entries of a table.
use Rattle.std.specs.Global.{Box}
use Rattle.std.specs.List.{flat_map}
use Rattle.std.specs.Map.{lookup}
use Rattle.std.specs.Prelude.{◌≡◌, ◌≢◌, ◌⊎◌, ◌↔◌, ◌∷◌, [], AllPairs, Bool, true, false, List, Option, None, Some, IsSome, IsSomeAnd, IsTrue, Contains, map, if◌then◌else◌}
use Rattle.std.specs.declared.cmp.Ordering.{Ordering}
use Rattle.std.specs.declared.cmp.Ordering.TheVariants.{Greater}
use Rattle.cedar_ast.specs.Lists.{Twice}
use Rattle.cedar_graph.specs.Edges.{IsEdgeIn}
use Rattle.cedar_schema_semantics.specs.Fault.{Fault, out_of_memory}

module _ {Name Body : Type 0} (is_definition : Body → Bool) where
  -- a declaration that is a definition gives itself, and any other nothing
  abbrev pub definition_in : Name × Body → List (Name × Body)
  definition_in it = if is_definition it.1 then it ∷ [] else []

  -- the names that are defined
  abbrev pub defined_in : List (Name × Body) → List Name
  defined_in entries = map (λ it. it.0) (flat_map definition_in entries)

  -- what declarations say of a name: what its definition says, or that it is declared and has none
  abbrev pub SaysIf : Bool → List (Name × Body) → Name → Body → Type 0
  SaysIf true entries name body = Contains (flat_map definition_in entries) (name, body)
  SaysIf false entries name body =
      Contains (map (λ it. it.0) entries) name × ¬ Contains (defined_in entries) name

  abbrev pub SaysTogether : List (Name × Body) → Name → Body → Type 0
  SaysTogether entries name body = SaysIf (is_definition body) entries name body

  -- why declarations are refused: some one is, or a name has two definitions; or memory ran out
  abbrev pub IsCollectingFault : {K : Type 0} → (K → Name) → (K → Body → Fault → Type 0)
      → (Name → Fault) → List (Name × Body) → Fault → Type 0
  IsCollectingFault {K = K} key_name IsBodyFault duplicate entries fault = (fault ≡ out_of_memory)
      ⊎ (((key : K) × (body : Body) × Contains entries (key_name key, body)
      × IsBodyFault key body fault)
      ⊎ ((name : Name) × (fault ≡ duplicate name) × Twice (defined_in entries) name))

module _ {Name Body Node : Type 0} (is_definition : Body → Bool) (IsExternal : Node → Type 0)
    (node_name : Node → Name)
    (Gives : Body → Node → Type 0) where
  -- the node is what the declarations of the name say together, and external where none defines it
  pub record IsCollected (entries : List (Name × Body)) (stated : Name) (it : Node) : Type 0 where
    pub body : Body
    pub says : SaysTogether is_definition entries stated body
    pub name : node_name it ≡ stated
    pub given : Gives body it
    pub external : IsExternal it ↔ (is_definition body ≡ false)

  -- at a name stands what its declarations say together, or none where it has none
  abbrev pub IsCollectedAt : List (Name × Body) → Name → Option Node → Type 0
  IsCollectedAt entries name None = ¬ Contains (map (λ it. it.0) entries) name
  IsCollectedAt entries name (Some it) = IsCollected entries name it

module _ {Node : Type 0} (IsExternal : Node → Type 0) where
  -- at a key stands a node that isn't external
  abbrev pub IsDefinedAt : Option Node → Type 0
  IsDefinedAt None = ⊥
  IsDefinedAt (Some it) = ¬ IsExternal it

  -- what stands at the name of a node before and after it is put there: an external one changes
  -- nothing where one stands, and any other replaces an external one
  abbrev pub IsPut : Node → Option Node → Option Node → Type 0
  IsPut it None after = after ≡ Some it
  IsPut it (Some old) after = (IsExternal it × (after ≡ Some old))
      ⊎ ((¬ IsExternal it) × IsExternal old × (after ≡ Some it))

-- each key was written where the name of its node was
abbrev pub AreLocated : {K Node : Type 0} → (K → Node → Type 0) → List (K × Node) → Type 0
AreLocated {K = K} {Node = Node} IsLocatedAs entries = (entry : K × Node) → Contains entries entry
    → IsLocatedAs entry.0 entry.1

module _ {K Node : Type 0} (eq : K → K → Bool) where
  -- what stands at a key among entries
  abbrev pub at_key : List (K × Node) → K → Option Node
  at_key entries key = lookup (eq key) entries

module _ {K Node : Type 0} (eq : K → K → Bool) (has_edge : Node → K → Bool) where
  -- a node stands at the first key, and has an edge to the second
  abbrev pub Leads : List (K × Node) → K → K → Type 0
  Leads nodes upper lower =
      IsSomeAnd (at_key eq nodes upper) (λ node. IsTrue (has_edge node lower))

module _ {K Node : Type 0} (eq : K → K → Bool) (has_edge : Node → K → Bool) where
  -- no node has edges, and one stands at either end of each edge
  pub record AreReady (edges : List (K × K)) (nodes : List (K × Node)) : Type 0 where
    pub apart : (upper lower : K) → ¬ Leads eq has_edge nodes upper lower
    pub ancestors : (upper lower : K) → IsEdgeIn eq edges upper lower
        → IsSome (at_key eq nodes upper)
    pub lowers : (upper lower : K) → IsEdgeIn eq edges upper lower → IsSome (at_key eq nodes lower)

-- no key is above the other
abbrev pub NoneAbove : {K : Type 0} → (K → K → Ordering) → List K → K → Type 0
NoneAbove {K = K} cmp keys other = (key : K) → Contains keys key → cmp key other ≢ Greater

-- no declaration's key is above that of one behind it
abbrev pub AreInOrder : {K D : Type 0} → (K → K → Ordering) → List (Box (K × D)) → Type 0
AreInOrder cmp declared = AllPairs (λ it later. cmp it.value.0 later.value.0 ≢ Greater) declared

-- a declaration under a key, as plain data: the name of the key, and what is declared
abbrev pub named : {K D Name Body : Type 0} → (K → Name) → (D → Body) → Box (K × D) → Name × Body
named key_name body_of it = (key_name it.value.0, body_of it.value.1)

-- each name with each of its parents
abbrev pub parents_in : {Name Reference : Type 0} → List (Name × List Reference)
    → List (Name × Reference)
parents_in entries = flat_map (λ it. map (λ reference. (it.0, reference)) it.1) entries

-- the edge leads to what has the name, from what the reference beside it resolves to
abbrev pub IsEdgeOf : {K Name Reference : Type 0} → (K → Name) → (Reference → Name → Type 0)
    → K × K → Name × Reference → Type 0
IsEdgeOf key_name Resolves edge parent =
    (key_name edge.1 ≡ parent.0) × Resolves parent.1 (key_name edge.0)

-- why parents are refused: some one is, or memory ran out
abbrev pub IsParentFault : {Name Reference : Type 0} → (Reference → Fault → Type 0)
    → List (Name × Reference) → Fault → Type 0
IsParentFault {Name = Name} {Reference = Reference} Refuses parents fault = (fault ≡ out_of_memory)
    ⊎ ((name : Name) × (reference : Reference) × Contains parents (name, reference)
    × Refuses reference fault)
