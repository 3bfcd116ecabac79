-- What counts as visited, and where the equations and the pairs are done.
use Rattle.std.proofs.Common.{ℕ, ◌+◌, ◌<◌, ◌≤◌, arith, List, length}
use Rattle.std.proofs.lemmas.Option.{slice_get_within}
use Rattle.swreq_rule.specs.swreq_word.declared.symbols.Symbol.{Symbol}
use Rattle.swreq_rule.specs.declared.rules.Rule.{Rule}
use Rattle.swreq_rule.specs.declared.rules.Birth.{Birth}
use Rattle.swreq_rule.specs.declared.rules.Birth.TheVariants.{Given, Pair}
use Rattle.swreq_rule.proofs.Numbers.{number_within}
use Rattle.swreq_complete.specs.Moments.{greater_number, HasSides}
use Rattle.swreq_complete.specs.Progress.{Progress, GivenBelow, UpTo}
use Rattle.swreq_complete.specs.Settled.{Settled}
use Rattle.swreq_complete.specs.Reached.{IsEnded}

-- more or fewer moments may count as visited, where no others have sides
pub widen : (base : ℕ) (given : List (List Symbol × List Symbol)) (t : List Rule) (Old New : Birth → Type 0) → Progress base given t Old
    → ((m : Birth) → Old m → New m) → ((m : Birth) (l r : List Symbol) → HasSides base given t m l r → New m → Old m)
    → ((m : Birth) → New m → greater_number m ≤ length t) → Progress base given t New
widen base given t Old New p more only bound = record {
  has_base = p.has_base;
  born = λ k r lo e. (let b = p.born k r lo e in (b.0, more r.birth b.1));
  settled = λ m l r h v. p.settled m l r h (only m l r h v);
  known = bound;
}

module _ (base : ℕ) (given : List (List Symbol × List Symbol)) (t : List Rule) where
  -- the equations are done
  pub equations_done : Progress base given t (GivenBelow (length given)) → Progress base given t (UpTo (base + 1))
  equations_done p = widen base given t (GivenBelow (length given)) (UpTo (base + 1)) p more only bound
    where
      more : (m : Birth) → GivenBelow (length given) m → UpTo (base + 1) m
      more (Given n) h = tt
      more (Pair a b to) h = absurd h

      only : (m : Birth) (l r : List Symbol) → HasSides base given t m l r → UpTo (base + 1) m → GivenBelow (length given) m
      only (Given n) l r s h =
          (let e = s.1 in omega (arith, e), let e = s.1 in let w = slice_get_within given s.0 (l, r) s.2 in omega (arith, e, w))
      only (Pair a b to) l r s h = absurd (let e = s.0 in omega (arith, h, e))

      bound : (m : Birth) → UpTo (base + 1) m → greater_number m ≤ length t
      bound (Given n) h = omega arith
      bound (Pair a b to) h = let b = p.has_base in omega (arith, h, b)

  pub all_done : (greater : ℕ) → length t < greater → Progress base given t (UpTo greater) → IsEnded base given t
  all_done greater lt p = record {
    reached = record { has_base = p.has_base; born = λ k r lo e. (p.born k r lo e).0; settled = λ k r lo e m l r' h b. every m l r' h };
    settled = every;
  }
    where
      visited : (m : Birth) (l r : List Symbol) → HasSides base given t m l r → UpTo greater m
      visited (Given n) l r s = tt
      visited (Pair a b to) l r s =
          let x = number_within t a s.1.first s.1.first_at in let y = number_within t b s.1.second s.1.second_at in omega (arith, x, y, lt)

      every : (m : Birth) (l r : List Symbol) → HasSides base given t m l r → Settled base t m l r
      every m l r h = p.settled m l r h (visited m l r h)
