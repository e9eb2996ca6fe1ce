-- a chain of one or more steps leads from the one to the other
pub data Chain {A : Type 0} (Step : A → A → Type 0) : A → A → Type 0 where
  one : {a b : A} → Step a b → Chain Step a b
  more : {a b c : A} → Step a b → Chain Step b c → Chain Step a c
