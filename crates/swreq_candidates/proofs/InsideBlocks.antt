-- What is cut inside a block, and how it changes where the words after a type change.
use Rattle.std.proofs.Common.{◌≡◌, List, [], ◌∷◌, refl, ap, subst, subst₂, sym, ◌∙◌, arith}
use Rattle.std.specs.List.{AllZip}
use Rattle.swreq_canonical.specs.swreq_param.Terms.{Term, member_count}
use Rattle.swreq_canonical.specs.swreq_param.Terms.Term.{Generic, Member}
use Rattle.swreq_canonical.specs.swreq_derive.Derivation.{Derivable, Source, TermFacts}
use Rattle.swreq_canonical.specs.swreq_derive.Derivation.Derives.{symm}
use Rattle.swreq_canonical.specs.swreq_derive.Derivation.TermRequirement.{Equals}
use Rattle.swreq_canonical.specs.swreq_derive.Derivation.TermStatement.{Requires}
use Rattle.swreq_canonical.specs.swreq_word.declared.symbols.Symbol.{Symbol}
use Rattle.swreq_canonical.specs.swreq_word.Relations.Chain.{done, more}
use Rattle.swreq_canonical.proofs.swreq_word.Chains.{joined}
use Rattle.swreq_canonical.specs.swreq_correspondence.Equations.{AreCongruent}
use Rattle.swreq_canonical.specs.swreq_correspondence.Readings.{CanRead, CanReadAll, after}
use Rattle.swreq_canonical.specs.swreq_correspondence.Symbols.{Symbols, Word, steps, symbol}
use Rattle.swreq_canonical.proofs.swreq_correspondence.Chained.{behind}
use Rattle.swreq_canonical.proofs.swreq_correspondence.Readings.{read_same, rest_is_read, unbound}
use Rattle.swreq_candidates.specs.Blocks.{Cut, Place, blocks, current}
use Rattle.swreq_candidates.specs.Blocks.Cut.{alone, at_end, on, opened}
use Rattle.swreq_candidates.specs.Blocks.Place.{Inside}
use Rattle.swreq_canonical.proofs.swreq_correspondence.Context.{chain_before}

module _ (m : Symbols) (f : TermFacts) (s : Source) where
  abbrev C : Word → Word → Type 0
  C = AreCongruent m f s

  pub all_same : (us : List Word) → AllZip C us us
  all_same [] = tt
  all_same (u ∷ us) = (done, all_same us)

  -- w is cut from the place o, into a rest of the block that is congruent to u, and blocks that are congruent to us
  abbrev pub HasCut : Place → Word → Word → List Word → Type 0
  HasCut o w u us = (k : Cut m f s o w) × C u (current k) × AllZip C us (blocks k)

  -- after an equal type the cut is the same
  pub behind_equal : (b : Source) (t u : Term) (w : Word) → Derivable f b (Requires (Equals t u)) → (k : Cut m f s (Inside b t) w)
      → HasCut (Inside b u) w (current k) (blocks k)
  behind_equal b t u [] e at_end = (at_end, done, tt)
  behind_equal b t u (x ∷ w) e (on c r) =
      let (d, g) = read_same m f b t u x e c in
      let (k, h, p) = behind_equal b (after m t x) (after m u x) w g r in
      (on d k, chain_before (x ∷ []) h, p)
  behind_equal b t u (x ∷ w) e (opened n c r) =
      (opened (λ h. n (read_same m f b u t x (symm e) h).0) c r, done, (done, all_same (blocks r)))
  behind_equal b t u (x ∷ w) e (alone n c r) = (alone (λ h. n (read_same m f b u t x (symm e) h).0) c r, done, (done, all_same (blocks r)))

  -- ---- the steps of a type parameter, read after another

  -- each step of p is read after t and the steps before it
  pub AreStepsRead : Source → Term → Term → Type 0
  AreStepsRead b t (Generic g) = Unit {0}
  AreStepsRead b t (Member p x) = AreStepsRead b t p × CanRead m f b (unbound m t p) (symbol m x)

  pub steps_read : (b : Source) (t p : Term) (w : Word) → CanReadAll m f b t (steps m p w) → AreStepsRead b t p
  unfolding AreStepsRead
  steps_read b t (Generic g) w c = tt
  steps_read b t (Member p x) w c = (steps_read b t p (symbol m x ∷ w) c, (rest_is_read m f b t p (symbol m x ∷ w) c).0)

  pub no_steps_read : (b : Source) (t p : Term) → member_count p ≡ 0 → AreStepsRead b t p
  unfolding AreStepsRead
  no_steps_read b t (Generic g) e = tt
  no_steps_read b t (Member p x) e = absurd (omega arith)

  -- a symbol that is read goes on with the block
  pub goes_on : (b : Source) (t : Term) (x : Symbol) (w : Word) → CanRead m f b t x → (k : Cut m f s (Inside b t) (x ∷ w))
      → (r : Cut m f s (Inside b (after m t x)) w) × (current k ≡ x ∷ current r) × (blocks k ≡ blocks r)
  goes_on b t x w h (on c r) = (r, refl, refl)
  goes_on b t x w h (opened n c r) = absurd (n h)
  goes_on b t x w h (alone n c r) = absurd (n h)

  without_steps : (b : Source) (t p : Term) (w : Word) → AreStepsRead b t p → (k : Cut m f s (Inside b t) (steps m p w))
      → (r : Cut m f s (Inside b (unbound m t p)) w) × (current k ≡ steps m p (current r)) × (blocks k ≡ blocks r)
  unfolding AreStepsRead
  without_steps b t (Generic g) w h k = (k, refl, refl)
  without_steps b t (Member p x) w (h, c) k =
      let (r, e, i) = without_steps b t p (symbol m x ∷ w) h k in
      let (q, d, j) = goes_on b (unbound m t p) (symbol m x) w c r in
      (q, e ∙ ap (steps m p) d, i ∙ j)

  with_steps : (b : Source) (t p : Term) (w : Word) → AreStepsRead b t p → (r : Cut m f s (Inside b (unbound m t p)) w)
      → (k : Cut m f s (Inside b t) (steps m p w)) × (current k ≡ steps m p (current r)) × (blocks k ≡ blocks r)
  unfolding AreStepsRead
  with_steps b t (Generic g) w h r = (r, refl, refl)
  with_steps b t (Member p x) w (h, c) r = with_steps b t p (symbol m x ∷ w) h (on c r)

  under_steps : (p : Term) {u v : Word} → C u v → C (steps m p u) (steps m p v)
  under_steps p done = done
  under_steps p (more l c) = more (behind m p l) (under_steps p c)

  -- ---- changes

  -- Where the block is read as t up to v, after the symbol x, v may be changed to w, after y where it is read as u: the block stays
  -- congruent, and so do those after it.
  abbrev pub Changes : Source → Symbol → Term → Word → Symbol → Term → Word → Type 0
  Changes b x t v y u w =
      (k : Cut m f s (Inside b t) v) → (l : Cut m f s (Inside b u) w) × C (x ∷ current k) (y ∷ current l) × AllZip C (blocks k) (blocks l)

  -- a change after steps that are read
  behind_steps : (b : Source) (x y : Symbol) (t u p q : Term) (v w : Word) → AreStepsRead b t p → AreStepsRead b u q
      → ((k : Cut m f s (Inside b (unbound m t p)) v) → (l : Cut m f s (Inside b (unbound m u q)) w)
      × C (x ∷ steps m p (current k)) (y ∷ steps m q (current l)) × AllZip C (blocks k) (blocks l))
      → Changes b x t (steps m p v) y u (steps m q w)
  behind_steps b x y t u p q v w h i inner k =
      let (r, e, d) = without_steps b t p v h k in
      let (l, c, a) = inner r in
      let (z, g, j) = with_steps b u q w i l in
      (z, subst₂ (λ c d. C (x ∷ c) (y ∷ d)) (sym e) (sym g) c, subst₂ (λ a b. AllZip C a b) (sym d) (sym j) a)

  placed : (b : Source) (w : Word) {t u : Term} → t ≡ u → (k : Cut m f s (Inside b t) w)
      → (l : Cut m f s (Inside b u) w) × (current l ≡ current k) × (blocks l ≡ blocks k)
  placed b w e k = subst (λ z. (l : Cut m f s (Inside b z) w) × (current l ≡ current k) × (blocks l ≡ blocks k)) e (k, refl, refl)

  -- a symbol z, after which the type is read as before, goes or comes
  module _ (b : Source) (x z : Symbol) (t p : Term) (w : Word) (h : AreStepsRead b t p) (stays : after m (unbound m t p) z ≡ unbound m t p)
      (c : CanRead m f b (unbound m t p) z) where
    pub vanishes : ((r : Word) → C (x ∷ steps m p (z ∷ r)) (x ∷ steps m p r)) → Changes b x t (steps m p (z ∷ w)) x t (steps m p w)
    vanishes link = behind_steps b x x t t p p (z ∷ w) w h h (λ k.
        let (r, e, d) = goes_on b (unbound m t p) z w c k in
        let (l, g, j) = placed b w stays r in (
          l,
          subst₂ (λ u v. C (x ∷ steps m p u) (x ∷ steps m p v)) (sym e) (sym g) (link (current r)),
          subst₂ (λ a b. AllZip C a b) (sym d) (sym j) (all_same (blocks r)),
        ))

    pub appears : ((r : Word) → C (x ∷ steps m p r) (x ∷ steps m p (z ∷ r))) → Changes b x t (steps m p w) x t (steps m p (z ∷ w))
    appears link = behind_steps b x x t t p p w (z ∷ w) h h (λ k.
        let (l, g, j) = placed b w (sym stays) k in (
          on c l,
          subst (λ u. C (x ∷ steps m p (current k)) (x ∷ steps m p (z ∷ u))) (sym g) (link (current k)),
          subst (λ a. AllZip C (blocks k) a) (sym j) (all_same (blocks k)),
        ))

  -- steps of equal types
  pub equal_steps : (b : Source) (x y : Symbol) (t u p q : Term) (w : Word) → AreStepsRead b t p → AreStepsRead b u q
      → Derivable f b (Requires (Equals (unbound m t p) (unbound m u q))) → ((r : Word) → C (x ∷ steps m p r) (y ∷ steps m q r))
      → Changes b x t (steps m p w) y u (steps m q w)
  equal_steps b x y t u p q w h i e link = behind_steps b x y t u p q w w h i (λ k.
      let (l, c, a) = behind_equal b (unbound m t p) (unbound m u q) w e k in
      (l, joined (link (current k)) (chain_before (y ∷ []) (under_steps q c)), a))
