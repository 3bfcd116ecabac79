-- The pairs of overlaps and containments, by the parts that the code cuts.
use Rattle.std.proofs.Common.{◌≡◌, ℕ, ◌+◌, ◌-◌, refl, sym, ◌∙◌, ap, arith, List, [], ◌++◌, append_assoc, length, length-append, take, drop, append-nil}
use Rattle.std.proofs.Math.Seq.{take-append_seam}
use Rattle.swreq_rule.specs.swreq_word.declared.symbols.Symbol.{Symbol}
use Rattle.swreq_rule.specs.declared.rules.Rule.{Rule}
use Rattle.swreq_pair.specs.Pairs.{OverlapPair, ContainmentPair}
use Rattle.swreq_rule.proofs.swreq_word.Cuts.{cut_rest, whole_rest}
use Rattle.swreq_rule.specs.swreq_word.Overlap.{Overlap, Containment}

-- the parts of an overlap, as the code cuts them
pub before_is : (l m : List Symbol) (at : ℕ) → (o : Overlap l m at) → take at l ≡ o.before
before_is l m at o = rw (← o.at_is, o.first_is) (take-append_seam o.before o.common)

pub after_is : (l m : List Symbol) (at : ℕ) → (o : Overlap l m at) → drop (length l - at) m ≡ o.after
after_is l m at o =
    let a = simp length-append at (ap length o.first_is) in let b = o.at_is in
    let e : length l - at ≡ length o.common = omega (arith, a, b) in
    rw (e) (cut_rest m o.common o.after o.second_is)

-- the pair of an overlap, from the sides that the code makes
pub overlap_found : (first second : Rule) (at : ℕ) (l r : List Symbol) → Overlap first.left second.left at
    → l ≡ first.right ++ drop (length first.left - at) second.left → r ≡ take at first.left ++ second.right
    → OverlapPair first second at l r
overlap_found first second at l r o e f = record {
  overlap = o;
  left_is = e ∙ ap (λ x. first.right ++ x) (after_is first.left second.left at o);
  right_is = f ∙ ap (λ x. x ++ second.right) (before_is first.left second.left at o);
}

-- the pair of a containment, from the sides that the code makes
pub containment_found : (first second : Rule) (at : ℕ) (l r : List Symbol) → Containment first.left second.left at
    → l ≡ first.right → r ≡ take at first.left ++ (second.right ++ drop (at + length second.left) first.left)
    → ContainmentPair first second at l r
containment_found first second at l r o e f =
    let b : take at first.left ≡ o.before = rw (← o.at_is, o.first_is) (take-append_seam o.before (second.left ++ o.after)) in
    let w : first.left ≡ (o.before ++ second.left) ++ o.after = o.first_is ∙ sym (append_assoc o.before second.left o.after) in
    let s : at + length second.left ≡ length (o.before ++ second.left) = (let k = o.at_is in rw length-append (omega (arith, k))) in
    let a : drop (at + length second.left) first.left ≡ o.after = rw s (cut_rest first.left (o.before ++ second.left) o.after w) in
    record { containment = o; left_is = e; right_is = f ∙ rw (b, a) refl }

-- the same along the names that the code has for the sides of the rules
module _ (first second : Rule) (at : ℕ) (l m a b x y : List Symbol) (is_l : l ≡ first.left) (is_m : m ≡ second.left)
    (is_a : a ≡ first.right) (is_b : b ≡ second.right) where
  pub containment_along : Containment first.left second.left at → x ≡ a ++ []
      → y ≡ take at l ++ (b ++ take (length l - (at + length m)) (drop (at + length m) l))
      → ContainmentPair first second at x y
  containment_along o p q =
      containment_found first second at x y o
      (p ∙ append-nil a ∙ is_a)
      (q ∙ rw (is_l, is_m, is_b, whole_rest first.left (at + length second.left)) refl)

  pub overlap_along : Overlap first.left second.left at
      → x ≡ a ++ take (length m - (length l - at)) (drop (length l - at) m) → y ≡ take at l ++ b
      → OverlapPair first second at x y
  overlap_along o p q =
      overlap_found first second at x y o
      (p ∙ rw (whole_rest m (length l - at), is_l, is_m, is_a) refl)
      (q ∙ rw (is_l, is_b) refl)
