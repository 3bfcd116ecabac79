-- Relations on a type: chains of steps, links both ways, and where two chains meet.

-- steps, none or more, lead from a to b
pub data Chain {A : Type 0} (R : A → A → Type 0) : A → A → Type 0 where
  done : {a : A} → Chain R a a
  more : {a b c : A} → R a b → Chain R b c → Chain R a c

-- steps, each forth or back, lead from a to b
pub data Linked {A : Type 0} (R : A → A → Type 0) : A → A → Type 0 where
  here : {a : A} → Linked R a a
  forth : {a b c : A} → R a b → Linked R b c → Linked R a c
  back : {a b c : A} → R b a → Linked R b c → Linked R a c

-- steps lead from a and from b to one
abbrev pub Meet : {A : Type 0} (R : A → A → Type 0) → A → A → Type 0
Meet {A} R a b = (c : A) × Chain R a c × Chain R b c

-- any two that are each one step from a third meet
abbrev pub IsLocallyConfluent : {A : Type 0} (R : A → A → Type 0) → Type 0
IsLocallyConfluent {A} R = (a b c : A) → R a b → R a c → Meet R b c

-- no step leads on from a
abbrev pub IsIrreducible : {A : Type 0} (R : A → A → Type 0) → A → Type 0
IsIrreducible {A} R a = (b : A) → R a b → ⊥
