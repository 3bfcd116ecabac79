-- Chains, links and meetings put together.
use Rattle.std.proofs.Common.{◌≡◌, refl}
use Rattle.swreq_word.specs.Relations.{Chain, Linked, Meet, IsIrreducible}
use Rattle.swreq_word.specs.Relations.Chain.{done, more}
use Rattle.swreq_word.specs.Relations.Linked.{here, forth, back}

module _ {A : Type 0} {R : A → A → Type 0} where
  pub at_once : {a b : A} → R a b → Chain R a b
  at_once s = more s done

  pub joined : {a b c : A} → Chain R a b → Chain R b c → Chain R a c
  joined done k = k
  joined (more s h) k = more s (joined h k)

  -- an irreducible leads only to itself
  pub stays : {a b : A} → IsIrreducible R a → Chain R a b → a ≡ b
  stays n done = refl
  stays n (more {b = x} s h) = absurd (n x s)

  pub turned : {a b : A} → Meet R a b → Meet R b a
  turned m = (m.0, m.2, m.1)

  pub linked_on : {a b c : A} → Linked R a b → Linked R b c → Linked R a c
  linked_on here k = k
  linked_on (forth r h) k = forth r (linked_on h k)
  linked_on (back r h) k = back r (linked_on h k)

  pub linked_back : {a b : A} → Linked R a b → Linked R b a
  linked_back here = here
  linked_back (forth r h) = linked_on (linked_back h) (back r here)
  linked_back (back r h) = linked_on (linked_back h) (forth r here)

  pub linked_chain : {a b : A} → Chain R a b → Linked R a b
  linked_chain done = here
  linked_chain (more s h) = forth s (linked_chain h)

  pub linked_meet : {a b : A} → Meet R a b → Linked R a b
  linked_meet m = linked_on (linked_chain m.1) (linked_back (linked_chain m.2))

-- what each step becomes, a chain of steps becomes
module _ {A B : Type 0} {R : A → A → Type 0} {S : B → B → Type 0} (f : A → B) where
  pub chain_by : ((a b : A) → R a b → Chain S (f a) (f b)) → {a b : A} → Chain R a b → Chain S (f a) (f b)
  chain_by step done = done
  chain_by step (more {a = a} {b = b} s h) = joined (step a b s) (chain_by step h)

  pub linked_by : ((a b : A) → R a b → Linked S (f a) (f b)) → {a b : A} → Linked R a b → Linked S (f a) (f b)
  linked_by step here = here
  linked_by step (forth {a = a} {b = b} s h) = linked_on (step a b s) (linked_by step h)
  linked_by step (back {a = a} {b = b} s h) = linked_on (linked_back (step b a s)) (linked_by step h)

  pub meet_by : ((a b : A) → R a b → Chain S (f a) (f b)) → {a b : A} → Meet R a b → Meet S (f a) (f b)
  meet_by step m = (f m.0, chain_by step m.1, chain_by step m.2)
