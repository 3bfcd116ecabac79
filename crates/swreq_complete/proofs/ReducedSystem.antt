-- The reduced system of the congruence of some rules.
use Rattle.std.proofs.Common.{◌≡◌, ℕ, ◌<◌, inl, inr, sym, ◌∙◌, ap, subst, arith, List, [], append-nil, length, length-append, take, Option, Some, None, MatchOption}
use Rattle.std.specs.List.{slice_get}
use Rattle.std.proofs.lemmas.Bool.{cases_lt}
use Rattle.std.proofs.lemmas.List.{nil_from_length}
use Rattle.swreq_rule.specs.swreq_word.declared.symbols.Symbol.{Symbol}
use Rattle.swreq_rule.specs.swreq_word.Order.{WordLess}
use Rattle.swreq_rule.specs.swreq_word.Relations.{Linked, IsLocallyConfluent, IsIrreducible}
use Rattle.swreq_rule.specs.swreq_word.Relations.Chain.{done}
use Rattle.swreq_rule.specs.swreq_word.Relations.Linked.{here, forth}
use Rattle.swreq_rule.proofs.swreq_word.Newman.{reached_by_class, chain_down}
use Rattle.swreq_rule.proofs.swreq_word.Comparing.{less_trans, not_below_itself, not_both_below}
use Rattle.swreq_rule.proofs.swreq_word.Chains.{linked_chain}
use Rattle.swreq_rule.proofs.swreq_word.WordsFounded as founded
use Rattle.swreq_rule.specs.declared.rules.Rule.{Rule}
use Rattle.swreq_rule.specs.Steps.{Step}
use Rattle.swreq_rule.proofs.Downward.{step_down}
use Rattle.swreq_rule.proofs.Search.{reduction_step, a_step, all_steps}
use Rattle.swreq_rule.specs.swreq_word.Least.{IsLeast, IsMinimal, EachFactor}
use Rattle.swreq_complete.specs.Reduced.{IsReduced, IsReducedOf, IsReducedSystem, HasBirths}
use Rattle.swreq_complete.specs.Complete.{IsFresh}
use Rattle.swreq_complete.specs.Search.{Found, IsReducedAt}
use Rattle.swreq_complete.proofs.Ended.{by_rule}
use Rattle.swreq_rule.proofs.swreq_lemmas.Elements.{in_front}

-- no two rules of a fresh list have one left side
pub fresh_apart : (rules : List Rule) → IsFresh rules → (j k : ℕ) (r s : Rule) → j < k → slice_get rules j ≡ Some r
    → slice_get rules k ≡ Some s
    → r.left ≡ s.left → ⊥
fresh_apart rules fresh j k r s l e f g =
    fresh k s f r.right (subst (λ x. Step (take k rules) x r.right) g (by_rule (take k rules) j r (in_front rules k j r l e)))

module _ (rules : List Rule) (local : IsLocallyConfluent (Step rules)) where
  pub least_irreducible : (w : List Symbol) → IsLeast (Linked (Step rules)) w → IsIrreducible (Step rules) w
  least_irreducible w h v s =
      let d = step_down rules w v s in
      elim (h v (forth s here)) [ inl e ↦ not_below_itself w (subst (λ x. WordLess x w) e d) | inr l ↦ not_both_below v w d l ]

  pub irreducible_least : (w : List Symbol) → IsIrreducible (Step rules) w → IsLeast (Linked (Step rules)) w
  irreducible_least w i v c =
      elim (chain_down (step_down rules) founded.words_founded less_trans
      (reached_by_class (step_down rules) founded.words_founded local done i c))
      [ inl e ↦ inl (sym e) | inr l ↦ inr l ]

  -- a word that is not irreducible while its proper factors are is a left side
  pub minimal_left : (w : List Symbol) → (IsIrreducible (Step rules) w → ⊥) → EachFactor w (IsIrreducible (Step rules))
      → (k : ℕ) × (rule : Rule) × (slice_get rules k ≡ Some rule) × (rule.left ≡ w)
  minimal_left w not factors = elim (reduction_step rules w) [
    | inr i ↦ absurd (not i)
    | inl s ↦ (let t = a_step rules w s.0 s.1 in
        let whole = simp length-append at (ap length t.at.source) in
        elim (cases_lt (length t.rule.left) (length w)) [
          | inl l ↦
              absurd (factors t.at.before t.rule.left t.at.after t.at.source l t.rule.right (by_rule rules t.is_rule.0 t.rule t.is_rule.2))
          | inr l ↦ (
            t.is_rule.0,
            t.rule,
            t.is_rule.2,
            (let b : t.at.before ≡ [] = nil_from_length t.at.before (omega (arith, whole, l)) in
                let a : t.at.after ≡ [] = nil_from_length t.at.after (omega (arith, whole, l)) in
                sym (t.at.source ∙ rw (b, a) (append-nil t.rule.left))),
          )
        ])
  ]

  -- a left side with irreducible proper factors is minimal
  left_minimal : (w v : List Symbol) → Step rules w v → EachFactor w (IsIrreducible (Step rules)) → IsMinimal (Linked (Step rules)) w
  left_minimal w v step factors = record {
    not_least = λ h. least_irreducible w h v step;
    factors = λ b u a g l. irreducible_least u (factors b u a g l);
  }

  pub factors_irreducible : (w : List Symbol) → IsMinimal (Linked (Step rules)) w → EachFactor w (IsIrreducible (Step rules))
  factors_irreducible w m b u a g l = least_irreducible u (m.factors b u a g l)

  pub minimal_there : (w : List Symbol) → IsMinimal (Linked (Step rules)) w
      → (k : ℕ) × (rule : Rule) × (slice_get rules k ≡ Some rule) × (rule.left ≡ w)
  minimal_there w m = minimal_left w (λ i. m.not_least (irreducible_least w i)) (factors_irreducible w m)

  -- a rule that is reduced at its place is of the reduced system
  pub reduced_rule : (k : ℕ) (r : Rule) → IsReducedAt rules k r → IsReduced (Linked (Step rules)) r
  reduced_rule k r p =
      let step : Step rules r.left p.0.right = subst (λ x. Step rules x p.0.right) p.2 (by_rule rules k p.0 p.1) in (
        left_minimal r.left p.0.right step p.4,
        forth step (linked_chain (all_steps rules p.5.steps)),
        irreducible_least r.right p.5.irreducible,
      )

  pub is_reduced : (found : List Rule) → Found rules found → IsReducedSystem (Linked (Step rules)) found
  is_reduced found f = record {
    each = λ k r e. (let p = f.each k r e in reduced_rule p.0 r p.1);
    all = λ w m. (let p = minimal_there w m in
        let q = f.all p.0 p.1 p.2 (subst (λ x. EachFactor x (IsIrreducible (Step rules))) (sym p.3) (factors_irreducible w m)) in
        (q.0, q.1, q.2, q.3 ∙ p.3));
    sorted = f.sorted;
  }

pub has_births : (rules : List Rule) (found : List Rule) → Found rules found → HasBirths rules found
has_births rules found f k r e = let p = f.each k r e in (p.0, p.1.0, p.1.1, p.1.2, p.1.3)

pub reduced_of : (rules : List Rule) → IsLocallyConfluent (Step rules) → (k : ℕ) (o : Option Rule)
    → MatchOption o
    ((rule : Rule) → slice_get rules k ≡ Some rule → EachFactor rule.left (IsIrreducible (Step rules)) → ⊥) (IsReducedAt rules k)
    → IsReducedOf (Linked (Step rules)) rules k o
reduced_of rules local k None none = λ rule e m. none rule e (factors_irreducible rules local rule.left m)
reduced_of rules local k (Some r) p = (reduced_rule rules local k r p, (p.0, p.1, p.2, p.3))
