-- The pairs of three rules, one by one.
use Rattle.std.proofs.Common.{◌≡◌, ℕ, ◌<◌, inl, refl, arith, List, [], ◌∷◌, ◌++◌, length}
use Rattle.swreq_rule.specs.swreq_word.declared.symbols.Symbol.{Symbol}
use Rattle.swreq_rule.specs.swreq_word.Overlap.{Overlap}
use Rattle.swreq_rule.specs.declared.rules.Rule.{Rule}
use Rattle.swreq_rule.specs.Steps.{RuleAt}
use Rattle.swreq_pair.specs.Pairs.{HasPair}
use Rattle.swreq_pair.specs.Worked.{a, b, place_with, HavePairs, ordered_places}

overlapping : (rules : List Rule) (r s : Rule) (i j at : ℕ) → RuleAt rules i r → RuleAt rules j s → Overlap r.left s.left at
    → HasPair rules (place_with i j at)
overlapping rules r s i j at f g o = (
  r.right ++ o.after,
  o.before ++ s.right,
  record { first = r; second = s; first_at = f; second_at = g; kind = inl (record { overlap = o; left_is = refl; right_is = refl }) },
)

overlap : {u v : List Symbol} (before common after : List Symbol) → u ≡ before ++ common → v ≡ common ++ after
    → 0 < length before → 0 < length common → 0 < length after → Overlap u v (length before)
overlap before common after f g l m n = record {
  before = before;
  common = common;
  after = after;
  before_some = l;
  common_some = m;
  after_some = n;
  first_is = f;
  second_is = g;
  at_is = refl;
}

pub have_pairs : (r s t : Rule) → HavePairs r s t ordered_places
have_pairs r s t first second third =
    let rules = r ∷ s ∷ t ∷ [] in
    let at_1_2_1 = overlapping rules r s 1 2 1 (0, refl, refl) (1, refl, refl)
    (overlap (a ∷ []) (b ∷ []) (a ∷ []) first second (omega arith) (omega arith) (omega arith)) in
    let at_2_1_1 = overlapping rules s r 2 1 1 (1, refl, refl) (0, refl, refl)
    (overlap (b ∷ []) (a ∷ []) (b ∷ []) second first (omega arith) (omega arith) (omega arith)) in
    let at_1_3_1 = overlapping rules r t 1 3 1 (0, refl, refl) (2, refl, refl)
    (overlap (a ∷ []) (b ∷ []) (b ∷ b ∷ []) first third (omega arith) (omega arith) (omega arith)) in
    let at_3_2_2 = overlapping rules t s 3 2 2 (2, refl, refl) (1, refl, refl)
    (overlap (b ∷ b ∷ []) (b ∷ []) (a ∷ []) third second (omega arith) (omega arith) (omega arith)) in
    let at_3_3_1 = overlapping rules t t 3 3 1 (2, refl, refl) (2, refl, refl)
    (overlap (b ∷ []) (b ∷ b ∷ []) (b ∷ []) third third (omega arith) (omega arith) (omega arith)) in
    let at_3_3_2 = overlapping rules t t 3 3 2 (2, refl, refl) (2, refl, refl)
    (overlap (b ∷ b ∷ []) (b ∷ []) (b ∷ b ∷ []) third third (omega arith) (omega arith) (omega arith)) in
    (at_1_2_1, (at_2_1_1, (at_1_3_1, (at_3_2_2, (at_3_3_1, (at_3_3_2, tt))))))
