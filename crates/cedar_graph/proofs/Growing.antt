-- Nodes that gain edges: none, more, one gain after another, and the gain of one node of a map.
use Rattle.std.proofs.Common.{◌≡◌, Bool, cond, IsTrue, ◌⊎◌, inl, inr, Option, None, Some, IsSome, IsSomeAnd, HashMap, sym, ◌∙◌, subst, subst₂}
use Rattle.std.proofs.lemmas.Bool.{cases_Bool, cond-true, cond-false}
use Rattle.std.specs.Cmp.{IsEquivalence}
use Rattle.std.specs.HashMap.{get}
use Rattle.cedar_graph.proofs.Numbers.{get_alike}
use Rattle.cedar_graph.specs.Words.{AreAlike, GrowsAt, GrowsBy}

module _ {K V : Type 0} (has_edge : V → K → Bool) (is_alike : V → V → Type 0) where
  -- a node that is left as it was
  pub grows_itself : ((v : V) → is_alike v v) → (May : K → Type 0) (v : V) → GrowsBy has_edge is_alike v v May
  grows_itself itself May v = record { old_stay = λ to edge. edge; sound = λ to edge. inl edge; alike = itself v }

  -- where edges may go to more keys
  pub grows_weaker : (May More : K → Type 0) → ((to : K) → May to → More to) → (v w : V)
      → GrowsBy has_edge is_alike v w May → GrowsBy has_edge is_alike v w More
  grows_weaker May More weaker v w grows = record {
    old_stay = grows.old_stay;
    sound = λ to edge. elim (grows.sound to edge) [ inl old ↦ inl old | inr may ↦ inr (weaker to may) ];
    alike = grows.alike;
  }

  -- one gain after another
  pub grows_onwards : ((a b c : V) → is_alike a b → is_alike b c → is_alike a c) → (May : K → Type 0) (u v w : V)
      → GrowsBy has_edge is_alike u v May → GrowsBy has_edge is_alike v w May → GrowsBy has_edge is_alike u w May
  grows_onwards onwards May u v w first second = record {
    old_stay = λ to edge. second.old_stay to (first.old_stay to edge);
    sound = λ to edge. elim (second.sound to edge) [ inl before ↦ first.sound to before | inr may ↦ inr may ];
    alike = onwards u v w first.alike second.alike;
  }

module _ {K V : Type 0} (has_edge : V → K → Bool) (is_alike : V → V → Type 0) where
  -- what stands at a key and is left as it was
  pub grows_at_itself : ((v : V) → is_alike v v) → (May : K → Type 0) (o : Option V) → GrowsAt has_edge is_alike o o May
  grows_at_itself itself May None = tt
  grows_at_itself itself May (Some v) = grows_itself has_edge is_alike itself May v

  -- where edges may go to more keys
  pub grows_at_weaker : (May More : K → Type 0) → ((to : K) → May to → More to) → (o p : Option V)
      → GrowsAt has_edge is_alike o p May → GrowsAt has_edge is_alike o p More
  grows_at_weaker May More weaker None None grows = tt
  grows_at_weaker May More weaker None (Some w) grows = grows
  grows_at_weaker May More weaker (Some v) None grows = grows
  grows_at_weaker May More weaker (Some v) (Some w) grows = grows_weaker has_edge is_alike May More weaker v w grows

  -- one gain after another
  pub grows_at_onwards : ((a b c : V) → is_alike a b → is_alike b c → is_alike a c)
      → (May : K → Type 0) (o p q : Option V)
      → GrowsAt has_edge is_alike o p May → GrowsAt has_edge is_alike p q May → GrowsAt has_edge is_alike o q May
  grows_at_onwards onwards May None None q first second = second
  grows_at_onwards onwards May None (Some v) q first second = elim first [ ]
  grows_at_onwards onwards May (Some u) None q first second = elim first [ ]
  grows_at_onwards onwards May (Some u) (Some v) None first second = elim second [ ]
  grows_at_onwards onwards May (Some u) (Some v) (Some w) first second =
      grows_onwards has_edge is_alike onwards May u v w first second

  -- an edge of what stood at the key stays
  pub edge_kept : (May : K → Type 0) (o p : Option V) (to : K) → GrowsAt has_edge is_alike o p May
      → IsSomeAnd o (λ node. IsTrue (has_edge node to)) → IsSomeAnd p (λ node. IsTrue (has_edge node to))
  edge_kept May None p to grows edge = elim edge [ ]
  edge_kept May (Some v) None to grows edge = grows
  edge_kept May (Some v) (Some w) to grows edge = grows.old_stay to edge

  -- an edge of what stands there stood before or goes where it may
  pub edge_sound : (May : K → Type 0) (o p : Option V) (to : K) → GrowsAt has_edge is_alike o p May
      → IsSomeAnd p (λ node. IsTrue (has_edge node to)) → IsSomeAnd o (λ node. IsTrue (has_edge node to)) ⊎ May to
  edge_sound May None None to grows edge = elim edge [ ]
  edge_sound May None (Some w) to grows edge = elim grows [ ]
  edge_sound May (Some v) None to grows edge = elim edge [ ]
  edge_sound May (Some v) (Some w) to grows edge = grows.sound to edge

  -- a node stays a node
  pub some_kept : (May : K → Type 0) (o p : Option V) → GrowsAt has_edge is_alike o p May → IsSome o → IsSome p
  some_kept May None None grows is = is
  some_kept May None (Some w) grows is = elim grows [ ]
  some_kept May (Some v) None grows is = elim grows [ ]
  some_kept May (Some v) (Some w) grows is = is

  -- what stands there stays alike
  pub alike_kept : (May : K → Type 0) (o p : Option V) → GrowsAt has_edge is_alike o p May → AreAlike is_alike o p
  alike_kept May None None grows = tt
  alike_kept May None (Some w) grows = grows
  alike_kept May (Some v) None grows = grows
  alike_kept May (Some v) (Some w) grows = grows.alike

module _ {K V S : Type 0} {eq : K → K → Bool} (laws : IsEquivalence eq) (has_edge : V → K → Bool) (is_alike : V → V → Type 0)
    (itself : (v : V) → is_alike v v) (before after : HashMap K V S) (name : K) (old new : V) (May : K → Type 0)
    (found : get eq before name ≡ Some old)
    (updated : (key : K) → get eq after key ≡ cond (eq name key) (Some new) (get eq before key))
    (grows : GrowsBy has_edge is_alike old new May) where
  -- where the node at one key grows, what stands at each key does
  pub updated_grows : (key : K)
      → GrowsAt has_edge is_alike (get eq before key) (get eq after key) (λ to. IsTrue (eq name key) × May to)
  updated_grows key = elim (cases_Bool (eq name key)) [
    | inl same ↦ let was : Some old ≡ get eq before key = sym found ∙ get_alike laws before name key same in
        let is : Some new ≡ get eq after key = sym (updated key ∙ cond-true (eq name key) (Some new) (get eq before key) same) in
        subst₂ (λ o p. GrowsAt has_edge is_alike o p (λ to. IsTrue (eq name key) × May to)) was is
        (grows_weaker has_edge is_alike May (λ to. IsTrue (eq name key) × May to) (λ to there. (same, there)) old new grows)
    | inr apart ↦ let kept : get eq before key ≡ get eq after key =
        sym (updated key ∙ cond-false (eq name key) (Some new) (get eq before key) apart) in
        subst (λ p. GrowsAt has_edge is_alike (get eq before key) p (λ to. IsTrue (eq name key) × May to)) kept
        (grows_at_itself has_edge is_alike itself (λ to. IsTrue (eq name key) × May to) (get eq before key))
  ]

-- nodes that are alike in one way are so in each that says less
pub alike_weaker : {V : Type 0} (P Q : V → V → Type 0) → ((a b : V) → P a b → Q a b) → (o p : Option V) → AreAlike P o p
    → AreAlike Q o p
alike_weaker P Q weaker None None alike = tt
alike_weaker P Q weaker None (Some w) alike = alike
alike_weaker P Q weaker (Some v) None alike = alike
alike_weaker P Q weaker (Some v) (Some w) alike = weaker v w alike
