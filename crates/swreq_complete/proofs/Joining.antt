-- A completion over a base joins the given equations to those of the base.
use Rattle.std.proofs.Common.{◌≡◌, ℕ, inl, inr, ap, subst, List, ◌++◌, take, map}
use Rattle.swreq_rule.specs.swreq_word.declared.symbols.Symbol.{Symbol}
use Rattle.swreq_rule.specs.swreq_word.Relations.{Linked}
use Rattle.swreq_rule.specs.swreq_word.Relations.Linked.{forth, here}
use Rattle.swreq_rule.specs.swreq_word.Replacement.{Replaces, Congruent}
use Rattle.swreq_rule.proofs.swreq_word.Chains.{linked_by}
use Rattle.swreq_rule.proofs.swreq_word.Congruence.{congruent_in_place, equation_congruent}
use Rattle.swreq_rule.proofs.swreq_lemmas.Elements.{get_left, get_right, get_either, get_of_map}
use Rattle.swreq_rule.specs.declared.rules.Rule.{Rule}
use Rattle.swreq_rule.specs.Steps.{Step}
use Rattle.swreq_rule.proofs.Context.{Linked-in-place}
use Rattle.swreq_complete.specs.Reached.{IsEnded}
use Rattle.swreq_complete.specs.Laws.{all_equations, EndedJoins}
use Rattle.swreq_complete.proofs.Ended.{by_rule, step_in_whole}
use Rattle.swreq_complete.proofs.Soundness.{sound, complete, given_sound}

-- what is congruent under the first of two lists of equations is so under both
more_equations : (first more : List (List Symbol × List Symbol)) (u v : List Symbol) → Congruent first u v → Congruent (first ++ more) u v
more_equations first more u v = linked_by (λ w. w)
    (λ a b (s : Replaces first a b). forth (record {
      number = s.number;
      left = s.left;
      right = s.right;
      is_equation = get_left first more s.number (s.left, s.right) s.is_equation;
      at = s.at;
    }) here)

module _ (base : ℕ) (equations given : List (List Symbol × List Symbol)) (trace : List Rule)
    (there : (u v : List Symbol) → Linked (Step (take base trace)) u v → Congruent equations u v)
    (back : (u v : List Symbol) → Congruent equations u v → Linked (Step (take base trace)) u v) where
  one_there : (u v : List Symbol) → Replaces (all_equations base given trace) u v → Congruent (equations ++ given) u v
  one_there u v e =
      congruent_in_place (equations ++ given) e.at
      (elim (get_either (map (λ (r : Rule). (r.left, r.right)) (take base trace)) given e.number (e.left, e.right) e.is_equation) [
        | inl h ↦ (let r = get_of_map (λ (r : Rule). (r.left, r.right)) (take base trace) e.number (e.left, e.right) h in
            let l : r.0.left ≡ e.left = ap (λ p. p.0) r.2 in
            let o : r.0.right ≡ e.right = ap (λ p. p.1) r.2 in
            let c = more_equations equations given r.0.left r.0.right
            (there r.0.left r.0.right (forth (by_rule (take base trace) e.number r.0 r.1) here)) in
            subst (λ x. Congruent (equations ++ given) e.left x) o (subst (λ x. Congruent (equations ++ given) x r.0.right) l c))
        | inr h ↦ (let j = get_right equations given h.0 (e.left, e.right) h.2 in
            equation_congruent (equations ++ given) j.0 e.left e.right j.1)
      ])

  one_back : IsEnded base given trace → (u v : List Symbol) → Replaces (equations ++ given) u v → Linked (Step trace) u v
  one_back ended u v e =
      Linked-in-place e.at
      (elim (get_either equations given e.number (e.left, e.right) e.is_equation) [
        | inl h ↦ linked_by (λ w. w) (λ a b s. forth (step_in_whole trace base a b s) here)
            (back e.left e.right (equation_congruent equations e.number e.left e.right h))
        | inr h ↦ complete base given trace ended e.left e.right (given_sound base given trace h.0 e.left e.right h.2)
      ])

pub joins : (base : ℕ) (equations given : List (List Symbol × List Symbol)) (trace : List Rule) → EndedJoins base equations given trace
joins base equations given trace ended same u v = (
  (λ l. linked_by (λ w. w) (one_there base equations given trace (λ x y. (same x y).0) (λ x y. (same x y).1))
      (sound base given trace ended.reached u v l)),
  (λ c. linked_by (λ w. w) (one_back base equations given trace (λ x y. (same x y).0) (λ x y. (same x y).1) ended) c),
)
