-- An ended completion stands for the equations that its base stands for and the given ones.
use Rattle.std.proofs.Common.{◌≡◌, ◌⊎◌, inl, inr, sym, ap, subst, subst₂, ℕ, List, [], ◌∷◌, ◌++◌, length, take, map, Some, Contains}
use Rattle.std.specs.List.{slice_get}
use Rattle.std.proofs.lemmas.List.{append-nil}
use Rattle.std.proofs.lemmas.List.Elements.{Contains-append_cases, Contains-append_right}
use Rattle.swreq_complete.specs.swreq_word.Relations.{Linked}
use Rattle.swreq_complete.specs.swreq_word.Relations.Chain.{done, more}
use Rattle.swreq_complete.specs.swreq_word.Relations.Linked.{here, forth as on_forth, back as on_back}
use Rattle.swreq_complete.specs.swreq_word.Replacement.{Replaced}
use Rattle.swreq_complete.proofs.swreq_word.Chains.{joined, at_once, linked_on, linked_back, linked_by}
use Rattle.swreq_complete.specs.swreq_rule.declared.rules.Rule.{Rule}
use Rattle.swreq_complete.specs.swreq_rule.Steps.{Step}
use Rattle.swreq_complete.proofs.swreq_rule.Context.{Step-before, Step-after}
use Rattle.swreq_complete.specs.Reached.{BeginsWith, IsEnded, IsReached}
use Rattle.swreq_complete.specs.Laws.{all_equations}
use Rattle.swreq_complete.proofs.Ended.{by_rule}
use Rattle.swreq_complete.proofs.swreq_lemmas.Elements.{in_whole, get_of_map, get_contains, contains_get}
use Rattle.swreq_complete.proofs.Soundness.{sound, complete}
use Rattle.swreq_correspondence.specs.Symbols.{Word}
use Rattle.swreq_correspondence.specs.Equations.{Link, Linking}
use Rattle.swreq_correspondence.specs.Equations.Link.{forth, back, there}
use Rattle.swreq_correspondence.proofs.Chained.{turn_all}
use Rattle.swreq_correspondence.proofs.Context.{chain_after, chain_before}
use Rattle.swreq_correspondence.proofs.Shown.{linking_to}
use Rattle.swreq_rounds.specs.Presents.{Presents}

-- ---- steps and links in a longer word

module _ (rules : List Rule) where
  pub links_before : (x : Word) {u v : Word} → Linked (Step rules) u v → Linked (Step rules) (x ++ u) (x ++ v)
  links_before x l = linked_by (λ w. x ++ w) (λ a b s. on_forth (Step-before x s) here) l

  pub links_after : (z : Word) {u v : Word} → Linked (Step rules) u v → Linked (Step rules) (u ++ z) (v ++ z)
  links_after z l = linked_by (λ w. w ++ z) (λ a b s. on_forth (Step-after z s) here) l

module _ {E : Word → Word → Type 0} where
  at_place : {u v l r : Word} → Replaced u v l r → Linking E l r → Linking E u v
  at_place s k = subst₂ (Linking E) (sym s.source) (sym s.target) (chain_before s.before (chain_after s.after k))

  pub linked_linking : {R : Word → Word → Type 0} → ((u v : Word) → R u v → Linking E u v) → {u v : Word} → Linked R u v → Linking E u v
  linked_linking h here = done
  linked_linking h (on_forth {a = a} {b = b} r k) = joined (h a b r) (linked_linking h k)
  linked_linking h (on_back {a = a} {b = b} r k) = joined (turn_all (h b a r)) (linked_linking h k)

  pub one_equation : (l r : Word) → E l r → Linking E l r
  one_equation l r e = subst₂ (Linking E) (append-nil l) (append-nil r) (at_once (forth [] e))

  module _ (rules : List Rule) (h : (l r : Word) → E l r → Linked (Step rules) l r) where
    one_link : {u v : Word} → Link E u v → Linked (Step rules) u v
    one_link (forth {l = l} {r = r} y e) = links_after rules y (h l r e)
    one_link (back {l = l} {r = r} y e) = linked_back (links_after rules y (h l r e))
    one_link (there x l) = links_before rules (x ∷ []) (one_link l)

    pub linking_linked : {u v : Word} → Linking E u v → Linked (Step rules) u v
    linking_linked done = here
    linking_linked (more l c) = linked_on (one_link l) (linking_linked c)

-- rules that present equations present those that link as much
pub presents_to : (rules : List Rule) (E F : Word → Word → Type 0) → ((l r : Word) → E l r → F l r) → ((l r : Word) → F l r → E l r)
    → Presents rules E → Presents rules F
presents_to rules E F a b p u v = ((λ l. linking_to a ((p u v).0 l)), (λ c. (p u v).1 (linking_to b c)))

no_rule : {A : Type 0} (u v : Word) → Step [] u v → A
no_rule u v s = absurd (let e = s.is_rule.2 in cc)

-- no rules present no equations
pub none_presents : Presents [] (λ l r. ⊥)
none_presents u v = (linked_linking (λ a b s. no_rule a b s), linking_linked [] (λ l r e. absurd e))

module _ (base : List Rule) (given : List (Word × Word)) (trace : List Rule) (E0 E : Word → Word → Type 0)
    (over : BeginsWith base trace) (reached : IsReached (length base) given trace) (before : Presents base E0)
    (old : (l r : Word) → E0 l r → E l r) (new : (l r : Word) → Contains given (l, r) → E l r) where
  base_equation : (k : ℕ) (l r : Word) → slice_get {X = Word × Word} (map (λ (x : Rule). (x.left, x.right)) base) k ≡ Some (l, r)
      → Linked (Step base) l r
  base_equation k l r e =
      let x = get_of_map (λ (x : Rule). (x.left, x.right)) base k (l, r) e in
      let a : x.0.left ≡ l = ap (λ p. p.0) x.2 in
      let b : x.0.right ≡ r = ap (λ p. p.1) x.2 in
      on_forth (subst₂ (Step base) a b (by_rule base k x.0 x.1)) here

  each_equation : (l r : Word) (k : ℕ)
      → slice_get {X = Word × Word} (all_equations (length base) given trace) k ≡ Some (l, r) → Linking E l r
  each_equation l r k e =
      elim (Contains-append_cases (map (λ (x : Rule). (x.left, x.right)) (take (length base) trace)) given (l, r)
      (get_contains {A = Word × Word} (all_equations (length base) given trace) k (l, r) e)) [
        | inl h ↦ (let g = contains_get {A = Word × Word} (map (λ (x : Rule). (x.left, x.right)) (take (length base) trace)) (l, r) h in
            linking_to old ((before l r).0 (base_equation g.0 l r
            (subst (λ b. slice_get {X = Word × Word} (map (λ (x : Rule). (x.left, x.right)) b) g.0 ≡ Some (l, r)) over g.1))))
        | inr h ↦ one_equation l r (new l r h)
      ]

  -- the rules of a reached trace are sound
  pub reached_linking : (u v : Word) → Linked (Step trace) u v → Linking E u v
  reached_linking u v l = linked_linking (λ a b s. at_place s.at (each_equation s.left s.right s.number s.is_equation))
      (sound (length base) given trace reached u v l)

module _ (base : List Rule) (given : List (Word × Word)) (trace : List Rule) (E0 E : Word → Word → Type 0)
    (over : BeginsWith base trace) (ended : IsEnded (length base) given trace) (before : Presents base E0)
    (old : (l r : Word) → E0 l r → E l r) (new : (l r : Word) → Contains given (l, r) → E l r)
    (all : (l r : Word) → E l r → E0 l r ⊎ Contains given (l, r)) where
  base_step : (a b : Word) → Step base a b → Linked (Step trace) a b
  base_step a b s = on_forth (record {
    rule = s.rule;
    number = s.number;
    is_rule =
        let (k, e, g) = s.is_rule in (k, e, in_whole trace (length base) k s.rule (subst (λ x. slice_get x k ≡ Some s.rule) (sym over) g));
    at = s.at;
  }) here

  up : (u v : Word) → Linking E u v → Linked (Step trace) u v
  up u v = linking_linked trace (λ l r e. elim (all l r e) [
    | inl h ↦ linked_by (λ w. w) base_step ((before l r).1 (one_equation l r h))
    | inr h ↦ (let g = contains_get {A = Word × Word} (all_equations (length base) given trace) (l, r)
        (Contains-append_right (map (λ (x : Rule). (x.left, x.right)) (take (length base) trace)) given (l, r) h) in
        complete (length base) given trace ended l r (on_forth (record {
          number = g.0;
          left = l;
          right = r;
          is_equation = g.1;
          at = record { before = []; after = []; source = sym (append-nil l); target = sym (append-nil r) };
        }) here))
  ])

  pub ended_presents : Presents trace E
  ended_presents u v = (reached_linking base given trace E0 E over ended.reached before old new u v, up u v)
