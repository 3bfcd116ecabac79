-- What alternatives have in common at the front may be read before the choice.
use Rattle.std.proofs.Common.{◌≡◌, List, [], ◌++◌, refl, sym, ap, subst, ◌∙◌, inl, inr}
use Rattle.std.proofs.lemmas.List.{append-nil}
use Rattle.swreq_grammar.specs.declared.token.Token.{Token}
use Rattle.swreq_grammar.specs.Grammar.{empty, mapped, sequence, alternative, Matches}
use Rattle.swreq_decl.specs.declared.terminal.Terminal.{Terminal}
use Rattle.swreq_decl.specs.Terminals.{number}
use Rattle.swreq_decl.specs.Source.{Line, after, before, continued, skipped}
use Rattle.swreq_decl.specs.Written.{SameTexts}
use Rattle.swreq_decl.proofs.SameTexts.{same, reversed, then, either, before_same}

-- ---- continued

continued_either : {A B : Type 0} (a : Line A) (g h : Line (A → B))
    → SameTexts (continued a (alternative g h)) (alternative (continued a g) (continued a h))
continued_either {A} {B} a g h = record { onward = to; back = from }
  where
    to : (ts : List (Token Terminal)) (v : B) → Matches number (continued a (alternative g h)) ts v
        → Matches number (alternative (continued a g) (continued a h)) ts v
    to ts v (w, (first, rest, s, m, inl n), e) = inl (w, (first, rest, s, m, n), e)
    to ts v (w, (first, rest, s, m, inr n), e) = inr (w, (first, rest, s, m, n), e)

    from : (ts : List (Token Terminal)) (v : B) → Matches number (alternative (continued a g) (continued a h)) ts v
        → Matches number (continued a (alternative g h)) ts v
    from ts v (inl (w, (first, rest, s, m, n), e)) = (w, (first, rest, s, m, inl n), e)
    from ts v (inr (w, (first, rest, s, m, n), e)) = (w, (first, rest, s, m, inr n), e)

continued_mapped : {A B C : Type 0} (a : Line A) (f : B → A → C) (g : Line B)
    → SameTexts (continued a (mapped f g)) (mapped (λ p. f p.1 p.0) (sequence a g))
continued_mapped {A} {B} {C} a f g = record { onward = to; back = from }
  where
    to : (ts : List (Token Terminal)) (v : C) → Matches number (continued a (mapped f g)) ts v
        → Matches number (mapped (λ p. f p.1 p.0) (sequence a g)) ts v
    to ts v (w, (first, rest, s, m, (x, n, k)), e) = ((w.0, x), (first, rest, s, m, n), ap (λ (j : A → C). j w.0) k ∙ e)

    from : (ts : List (Token Terminal)) (v : C) → Matches number (mapped (λ p. f p.1 p.0) (sequence a g)) ts v
        → Matches number (continued a (mapped f g)) ts v
    from ts v (p, (first, rest, s, m, n), e) = ((p.0, f p.1), (first, rest, s, m, (p.1, n, refl)), e)

continued_empty : {A C : Type 0} (a : Line A) (f : A → C) → SameTexts (continued a (empty f)) (mapped f a)
continued_empty {A} {C} a f = record { onward = to; back = from }
  where
    to : (ts : List (Token Terminal)) (v : C) → Matches number (continued a (empty f)) ts v → Matches number (mapped f a) ts v
    to ts v (w, (first, rest, s, m, (z, k)), e) = (
      w.0,
      subst (λ us. Matches number a us w.0) (sym (s ∙ ap (λ (us : List (Token Terminal)). first ++ us) z ∙ append-nil first)) m,
      ap (λ (j : A → C). j w.0) k ∙ e,
    )

    from : (ts : List (Token Terminal)) (v : C) → Matches number (mapped f a) ts v → Matches number (continued a (empty f)) ts v
    from ts v (x, m, e) = ((x, f), (ts, [], sym (append-nil ts), m, (refl, refl)), e)

pub two_ways : {A B C D : Type 0} (a : Line A) (f : B → A → D) (g : Line B) (k : C → A → D) (h : Line C) →
    SameTexts (continued a (alternative (mapped f g) (mapped k h)))
    (alternative (mapped (λ p. f p.1 p.0) (sequence a g)) (mapped (λ p. k p.1 p.0) (sequence a h)))
two_ways a f g k h = then (continued_either a (mapped f g) (mapped k h)) (either (continued_mapped a f g) (continued_mapped a k h))

pub three_ways : {A B C D : Type 0} (a : Line A) (f : B → A → D) (g : Line B) (k : C → A → D) (h : Line C) (j : A → D) →
    SameTexts (continued a (alternative (mapped f g) (alternative (mapped k h) (empty j))))
    (alternative (mapped (λ p. f p.1 p.0) (sequence a g)) (alternative (mapped (λ p. k p.1 p.0) (sequence a h)) (mapped j a)))
three_ways a f g k h j =
    then (continued_either a (mapped f g) (alternative (mapped k h) (empty j)))
    (either (continued_mapped a f g)
    (then (continued_either a (mapped k h) (empty j)) (either (continued_mapped a k h) (continued_empty a j))))

-- ---- the order and grouping of alternatives

pub swapped : {A : Type 0} (g h : Line A) → SameTexts (alternative g h) (alternative h g)
swapped {A} g h = record { onward = to g h; back = to h g }
  where
    to : (x y : Line A) (ts : List (Token Terminal)) (v : A) → Matches number (alternative x y) ts v → Matches number (alternative y x) ts v
    to x y ts v (inl n) = inr n
    to x y ts v (inr n) = inl n

pub grouped : {A : Type 0} (g h k : Line A) → SameTexts (alternative g (alternative h k)) (alternative (alternative g h) k)
grouped {A} g h k = record { onward = to; back = from }
  where
    to : (ts : List (Token Terminal)) (v : A) → Matches number (alternative g (alternative h k)) ts v
        → Matches number (alternative (alternative g h) k) ts v
    to ts v (inl n) = inl (inl n)
    to ts v (inr (inl n)) = inl (inr n)
    to ts v (inr (inr n)) = inr n

    from : (ts : List (Token Terminal)) (v : A) → Matches number (alternative (alternative g h) k) ts v
        → Matches number (alternative g (alternative h k)) ts v
    from ts v (inl (inl n)) = inl n
    from ts v (inl (inr n)) = inr (inl n)
    from ts v (inr n) = inr (inr n)

-- the first of each of two groups are paired
paired : {A : Type 0} (a b c d q : Line A) → SameTexts (alternative (alternative a b) (alternative (alternative c d) q))
    (alternative (alternative a c) (alternative b (alternative d q)))
paired {A} a b c d q = record { onward = to; back = from }
  where
    to : (ts : List (Token Terminal)) (v : A) → Matches number (alternative (alternative a b) (alternative (alternative c d) q)) ts v
        → Matches number (alternative (alternative a c) (alternative b (alternative d q))) ts v
    to ts v (inl (inl n)) = inl (inl n)
    to ts v (inl (inr n)) = inr (inl n)
    to ts v (inr (inl (inl n))) = inl (inr n)
    to ts v (inr (inl (inr n))) = inr (inr (inl n))
    to ts v (inr (inr n)) = inr (inr (inr n))

    from : (ts : List (Token Terminal)) (v : A) → Matches number (alternative (alternative a c) (alternative b (alternative d q))) ts v
        → Matches number (alternative (alternative a b) (alternative (alternative c d) q)) ts v
    from ts v (inl (inl n)) = inl (inl n)
    from ts v (inl (inr n)) = inr (inl (inl n))
    from ts v (inr (inl n)) = inl (inr n)
    from ts v (inr (inr (inl n))) = inr (inl (inr n))
    from ts v (inr (inr (inr n))) = inr (inr n)

pub after_either : {A B : Type 0} (a : Line A) (g h : Line B) → SameTexts (after a (alternative g h)) (alternative (after a g) (after a h))
after_either {A} {B} a g h = record { onward = to; back = from }
  where
    to : (ts : List (Token Terminal)) (v : B) → Matches number (after a (alternative g h)) ts v
        → Matches number (alternative (after a g) (after a h)) ts v
    to ts v (w, (first, rest, s, m, inl n), e) = inl (w, (first, rest, s, m, n), e)
    to ts v (w, (first, rest, s, m, inr n), e) = inr (w, (first, rest, s, m, n), e)

    from : (ts : List (Token Terminal)) (v : B) → Matches number (alternative (after a g) (after a h)) ts v
        → Matches number (after a (alternative g h)) ts v
    from ts v (inl (w, (first, rest, s, m, n), e)) = (w, (first, rest, s, m, inl n), e)
    from ts v (inr (w, (first, rest, s, m, n), e)) = (w, (first, rest, s, m, inr n), e)

-- ---- optional access

maybe_after : {A B : Type 0} (a : Line A) (g : Line B) → SameTexts (alternative (after a g) g) (after (skipped a) g)
maybe_after {A} {B} a g = record { onward = to; back = from }
  where
    to : (ts : List (Token Terminal)) (v : B) → Matches number (alternative (after a g) g) ts v → Matches number (after (skipped a) g) ts v
    to ts v (inl (w, (first, rest, s, m, n), e)) = ((tt, w.1), (first, rest, s, inl (w.0, m, refl), n), e)
    to ts v (inr n) = ((tt, v), ([], ts, refl, inr (refl, refl), n), refl)

    from : (ts : List (Token Terminal)) (v : B) → Matches number (after (skipped a) g) ts v
        → Matches number (alternative (after a g) g) ts v
    from ts v (w, (first, rest, s, inl (x, m, k), n), e) = inl ((x, w.1), (first, rest, s, m, n), e)
    from ts v (w, (first, rest, s, inr (z, k), n), e) =
        let whole : rest ≡ ts = sym (s ∙ ap (λ (us : List (Token Terminal)). us ++ rest) z) in
        inr (subst (λ us. Matches number g us v) whole (subst (λ x. Matches number g rest x) e n))

mapped_after : {A B C : Type 0} (f : B → C) (a : Line A) (g : Line B) → SameTexts (mapped f (after a g)) (after a (mapped f g))
mapped_after {A} {B} {C} f a g = record { onward = to; back = from }
  where
    to : (ts : List (Token Terminal)) (v : C) → Matches number (mapped f (after a g)) ts v → Matches number (after a (mapped f g)) ts v
    to ts v (x, (w, (first, rest, s, m, n), e), k) = ((w.0, v), (first, rest, s, m, (w.1, n, ap f e ∙ k)), refl)

    from : (ts : List (Token Terminal)) (v : C) → Matches number (after a (mapped f g)) ts v → Matches number (mapped f (after a g)) ts v
    from ts v (w, (first, rest, s, m, (x, n, k)), e) = (x, ((w.0, x), (first, rest, s, m, n), refl), k ∙ e)

-- a line with and without what stands at its front
maybe_mapped : {A B C : Type 0} (f : B → C) (a : Line A) (g : Line B)
    → SameTexts (alternative (after a (mapped f g)) (mapped f g)) (mapped f (after (skipped a) g))
maybe_mapped f a g = then (maybe_after a (mapped f g)) (reversed (mapped_after f (skipped a) g))

before_either : {A B : Type 0} (g h : Line A) (s : Line B) → SameTexts (before (alternative g h) s) (alternative (before g s) (before h s))
before_either {A} {B} g h s = record { onward = to; back = from }
  where
    to : (ts : List (Token Terminal)) (v : A) → Matches number (before (alternative g h) s) ts v
        → Matches number (alternative (before g s) (before h s)) ts v
    to ts v (w, (first, rest, e, inl m, n), k) = inl (w, (first, rest, e, m, n), k)
    to ts v (w, (first, rest, e, inr m, n), k) = inr (w, (first, rest, e, m, n), k)

    from : (ts : List (Token Terminal)) (v : A) → Matches number (alternative (before g s) (before h s)) ts v
        → Matches number (before (alternative g h) s) ts v
    from ts v (inl (w, (first, rest, e, m, n), k)) = (w, (first, rest, e, inl m, n), k)
    from ts v (inr (w, (first, rest, e, m, n), k)) = (w, (first, rest, e, inr m, n), k)

before_four : {A B : Type 0} (g h i j : Line A) (s : Line B) → SameTexts (before (alternative g (alternative h (alternative i j))) s)
    (alternative (before g s) (alternative (before h s) (alternative (before i s) (before j s))))
before_four g h i j s =
    then (before_either g (alternative h (alternative i j)) s)
    (either (same (before g s)) (then (before_either h (alternative i j) s) (either (same (before h s)) (before_either i j s))))

-- three parts with an optional front, and a fourth part without one
pub with_front : {A B C D E F : Type 0} (a : Line A) (b : B → E) (g : Line B) (c : C → E) (h : Line C) (d : D → E) (i : Line D)
    (q : Line E) (s : Line F) →
    let front : Line E = alternative (mapped b g) (alternative (mapped c h) (mapped d i)) in
    SameTexts (before (alternative (after a front) (alternative front q)) s)
    (alternative (before (mapped b (after (skipped a) g)) s)
    (alternative (before (mapped c (after (skipped a) h)) s) (alternative (before (mapped d (after (skipped a) i)) s) (before q s))))
with_front a b g c h d i q s =
    then
    (before_same s
    (then (either (then (after_either a (mapped b g) (alternative (mapped c h) (mapped d i))) (either (same (after a (mapped b g)))
    (after_either a (mapped c h) (mapped d i)))) (same (alternative (alternative (mapped b g) (alternative (mapped c h) (mapped d i))) q)))
    (then (paired (after a (mapped b g)) (alternative (after a (mapped c h)) (after a (mapped d i))) (mapped b g)
    (alternative (mapped c h) (mapped d i)) q)
    (either (maybe_mapped b a g)
    (then (paired (after a (mapped c h)) (after a (mapped d i)) (mapped c h) (mapped d i) q)
    (either (maybe_mapped c a h)
    (then (grouped (after a (mapped d i)) (mapped d i) q)
    (either (maybe_mapped d a i) (same q)))))))))
    (before_four (mapped b (after (skipped a) g)) (mapped c (after (skipped a) h)) (mapped d (after (skipped a) i)) q s)
