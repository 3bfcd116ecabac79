-- What equations bear by themselves: one answer, which their completion reaches before its first pair.
use Rattle.std.proofs.Common.{◌≡◌, ℕ, ◌-◌, ◌<◌, ◌^◌, ◌⊎◌, inl, inr, refl, sym, ◌∙◌, ap, subst, arith, List, length, take, Option, Ok, Err}
use Rattle.std.proofs.lemmas.Option.{slice_get_within}
use Rattle.swreq_rule.specs.swreq_word.declared.symbols.Symbol.{Symbol}
use Rattle.swreq_rule.specs.declared.rules.Rule.{Rule}
use Rattle.swreq_rule.specs.declared.rules.Birth.{Birth}
use Rattle.swreq_rule.specs.declared.rules.Birth.TheVariants.{Given, Pair}
use Rattle.swreq_watch.specs.declared.events.Event.{Event}
use Rattle.swreq_complete.specs.declared.limit.Limits.{Limits}
use Rattle.swreq_complete.specs.declared.limit.Which.{Which}
use Rattle.swreq_complete.specs.declared.limit.Failed.{Failed}
use Rattle.swreq_complete.specs.declared.limit.Failed.TheVariants.{Limit, Memory}
use Rattle.swreq_complete.specs.Moments.{HasSides}
use Rattle.swreq_complete.specs.Settled.{Settled}
use Rattle.swreq_complete.specs.Reached.{IsReached}
use Rattle.swreq_complete.specs.Limits.{KeepsAll}
use Rattle.swreq_complete.specs.Progress.{GivenBelow}
use Rattle.swreq_complete.specs.Short.{IsOfEquation, AreOfEquations, BearsWithin, PassesAmong, IsBorneBy}
use Rattle.swreq_complete.specs.Settling.{Grown, HasCome}
use Rattle.swreq_complete.specs.Laws.{BorneIsOne, BorneIsWithin, BorneIsPrefix}
use Rattle.swreq_complete.proofs.Closed.{reached, below_closed}
use Rattle.swreq_complete.proofs.Equations.{below_given}
use Rattle.swreq_complete.proofs.Agreement.{goes_no_further, one_front}
use Rattle.swreq_complete.proofs.Outcome.{keeps_or_passes, passes_one, within_is_prefix}
use Rattle.swreq_complete.proofs.Answering.{over_grown}
use Rattle.swreq_complete.proofs.Telling.{kept_length}

-- all moments that are equations are settled
settled_equations : (limits : Limits) (base : ℕ) (given : List (List Symbol × List Symbol)) (t : List Rule)
    → BearsWithin limits base given t
    → (m : Birth) (left right : List Symbol) → HasSides base given t m left right → IsOfEquation m → Settled base t m left right
settled_equations limits base given t p (Given n) left right sides of = p.settled n left right sides
settled_equations limits base given t p (Pair i j at) left right sides of = absurd of

-- no reached trace whose rules are of equations goes past one that they bear
borne_last : (limits : Limits) (base : ℕ) (given : List (List Symbol × List Symbol)) (t u : List Rule) → take base t ≡ take base u
    → BearsWithin limits base given t → IsReached base given u → AreOfEquations base u → u ≡ take (length u) t
borne_last limits base given t u same p q of =
    goes_no_further base given t u IsOfEquation p.reached (settled_equations limits base given t p) q of same

bears_or_passes : (limits : Limits) (base : ℕ) (given : List (List Symbol × List Symbol)) (t u : List Rule) → take base t ≡ take base u
    → (which : Which) → BearsWithin limits base given t → PassesAmong limits base given u which → ⊥
bears_or_passes limits base given t u same which p q =
    keeps_or_passes limits base given u t (sym same) which q.passes
    (borne_last limits base given t u same p q.passes.within.reached q.of_equations) p.kept

bears_one : (limits : Limits) (base : ℕ) (given : List (List Symbol × List Symbol)) (t u : List Rule) → take base t ≡ take base u
    → BearsWithin limits base given t → BearsWithin limits base given u → t ≡ u
bears_one limits base given t u same p q =
    one_front t u (borne_last limits base given u t (sym same) q p.reached p.of_equations)
    (borne_last limits base given t u same p q.reached q.of_equations)

pub borne_is_one : (limits : Limits) (base : List Rule) (given : List (List Symbol × List Symbol)) → BorneIsOne limits base given
borne_is_one limits base given (Ok t) p (Ok u) q = inl (ap Ok (bears_one limits (length base) given t u (p.0 ∙ sym q.0) p.1 q.1))
borne_is_one limits base given (Ok t) p (Err (Limit w u)) q =
    absurd (bears_or_passes limits (length base) given t u (p.0 ∙ sym q.0) w p.1 q.1)
borne_is_one limits base given (Err (Limit w u)) q (Ok t) p =
    absurd (bears_or_passes limits (length base) given t u (p.0 ∙ sym q.0) w p.1 q.1)
borne_is_one limits base given (Err (Limit v t)) p (Err (Limit w u)) q =
    inl (let e = passes_one limits (length base) given t u (p.0 ∙ sym q.0) v w p.1.passes q.1.passes in let f = e.0 in let g = e.1 in cc)
borne_is_one limits base given (Err Memory) p b q = inr (inl refl)
borne_is_one limits base given a p (Err Memory) q = inr (inr refl)

pub borne_is_within : (limits : Limits) (base : ℕ) (given : List (List Symbol × List Symbol)) (trace : List Rule)
    → BorneIsWithin limits base given trace
borne_is_within limits base given trace p = record { reached = p.reached; kept = λ k rule lo l e. p.kept k rule lo e }

pub borne_is_prefix : (limits : Limits) (base : List Rule) (given : List (List Symbol × List Symbol)) (part whole : List Rule)
    → BorneIsPrefix limits base given part whole
borne_is_prefix limits base given part whole o p =
    within_is_prefix limits base given part whole o (borne_is_within limits (length base) given part p)

-- ---- from what settling did to the answer

-- rules that keep the limits over a base with numbers of 32 bits have such numbers
pub few_kept : (limits : Limits) (base new : List Rule) → length base < 2 ^ 32 - 1 → KeepsAll limits (length base) new
    → length new < 2 ^ 32 - 1
few_kept limits base new few kept =
    let k = kept_length limits (length base) new kept in let m = limits.in_range.1 in omega (arith, k, few, m)

-- a completion that came as far as the last equation
come_bears : (limits : Limits) (base : ℕ) (given : List (List Symbol × List Symbol)) (old new : List Rule)
    (told told' : Option (List Event))
    → HasCome limits base given (GivenBelow (length given)) old new told told' → BearsWithin limits base given new
come_bears limits base given old new told told' c = record {
  reached = reached base given new (GivenBelow (length given)) c.progress (below_closed base given (length given) new);
  of_equations = λ k rule lo e. below_given (length given) rule.birth (c.progress.born k rule lo e).1;
  settled = λ n left right s. c.progress.settled (Given n) left right s
      (let e = s.1 in let w = slice_get_within given s.0 (left, right) s.2 in (omega (arith, e), omega (arith, e, w)));
  kept = c.kept;
}

module _ (limits : Limits) (given : List (List Symbol × List Symbol)) (base list : List Rule) (told told' : Option (List Event))
    (new : List Rule) (same : list ≡ base) where
  pub borne_answer : HasCome limits (length list) given (GivenBelow (length given)) list new told told'
      → IsBorneBy limits base given (Ok new)
  borne_answer c = subst (λ (b : List Rule). IsBorneBy limits b given (Ok new)) same
      (over_grown list new told told' c.grown, come_bears limits (length list) given list new told told' c)

  pub passed_among : (which : Which) → PassesAmong limits (length list) given new which × Grown list new told told' → (failed : Failed)
      → (failed ≡ Limit which new) ⊎ (failed ≡ Memory) → IsBorneBy limits base given (Err failed)
  passed_among which d failed (inl e) =
      subst (λ (x : Failed). IsBorneBy limits base given (Err x)) (sym e)
      (subst (λ (b : List Rule). IsBorneBy limits b given (Err (Limit which new))) same (over_grown list new told told' d.1, d.0))
  passed_among which d failed (inr e) = subst (λ (x : Failed). IsBorneBy limits base given (Err x)) (sym e) tt
