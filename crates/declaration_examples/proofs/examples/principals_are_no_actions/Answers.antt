use Rattle.std.proofs.Common.{◌≡◌, zero, suc, [], ◌∷◌, refl, inl, inr, arith, Contains, codes}
use Rattle.declaration_examples.proofs.examples.principals_are_no_actions.Goals as goal
use Rattle.declaration_examples.specs.Words.{Entity, Extensions, IsActionType, IsAtEntityTypePosition, PlainName, Reference, ResolvesTo, action_here, action_word, alias_name, defined_names, principal_bag, refer_here}

-- the name is that of an action's type, and stands for a principal
abbrev IsNamed : Extensions → PlainName → Type 0
IsNamed extensions name =
    IsActionType name × (reference : Reference) × IsAtEntityTypePosition principal_bag reference
    × ResolvesTo (defined_names principal_bag extensions) reference name

-- the type of the action is
action_named : (extensions : Extensions) → IsNamed extensions (alias_name action_word)
action_named extensions = (
  refl,
  refer_here Entity action_word,
  (action_here (codes "view") (refer_here Entity action_word ∷ []), (0, omega arith, refl), inl (0, omega arith, refl)),
  inl (refl, inr (tt, (0, omega arith, refl))),
)

-- the type of the action is the only one
only_action : (name : PlainName) → Contains (alias_name action_word ∷ []) name → alias_name action_word ≡ name
only_action name (zero, below, is) = is
only_action name (suc k, below, is) = absurd (omega (arith, below))

pub returns : goal.returns
returns c extensions = (
  λ none. cc,
  λ name among. rw (← (only_action name among)) (action_named extensions),
)
