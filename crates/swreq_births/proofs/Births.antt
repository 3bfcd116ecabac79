-- What a rule is born of: an equation, or a pair.
use Rattle.std.proofs.Common.{◌≡◌, inl, inr, ℕ, suc, ◌-◌, ◌<◌, ◌≤◌, List, drop, take, slice_get, Some, max, sym, ap, subst, ◌∙◌, arith}
use Rattle.std.proofs.lemmas.{List.{take-append-drop}, Option.{same_Some}}
use Rattle.swreq_complete.specs.swreq_rule.declared.rules.{Birth.{Birth, TheVariants.{Given, Pair}}, Place.{Place}, Rule.{Rule}}
use Rattle.swreq_complete.specs.{swreq_rule.{Oriented.{IsOriented}, Steps.{RuleAt}}, Moments.{HasSides, greater_number}, Reached.{IsBorn}}
use Rattle.swreq_complete.proofs.swreq_rule.Numbers.{one_rule}
use Rattle.swreq_param.{specs.Terms.{Term}, proofs.swreq_lemmas.Elements.{get_of_map}}
use Rattle.swreq_correspondence.specs.swreq_word.declared.symbols.Symbol.{Symbol}
use Rattle.swreq_births.specs.{declared.history.{Equation.{Equation}, System.{System}}, Systems.{given_of, ReducesTo}}
use Rattle.swreq_births.specs.{Heads.{head_of, IsHeadStated}, Pairs.{after_first, after_second, first_made, second_made}}
use Rattle.swreq_births.proofs.Asking.{IsHeaded, head_front, head_put, head_some, asked_is_said, head_of_front, head_of_born, AreHeaded}
use Rattle.swreq_births.proofs.PairParts.{Met, meet_at, met_in}
use Rattle.swreq_derivation.specs.{declared.derivation.Derivation.{Derivation}, Origins.{ConformsIfAny}}
use Rattle.swreq_readings.specs.{declared.alphabet.Alphabet.{Alphabet}, Readable.{AllowsWord, read_word}}
use Rattle.swreq_readings.proofs.ReadingLemmas.{word_right}

-- ---- births

-- What a rule past the base is born of: two words, which the rules before it reduce to the sides of the rule.
pub record BornOf (v : System) (k : ℕ) (rule : Rule) (moment : Birth) : Type 0 where
  pub left : List Symbol
  pub right : List Symbol
  pub sides : HasSides v.base (given_of v) v.rules moment left right
  pub reduces : ReducesTo v.rules k left right rule
  pub knows : greater_number moment ≤ k

pub born_of : (v : System) (k : ℕ) (rule : Rule) (moment : Birth) → v.base ≤ k → slice_get v.rules k ≡ Some rule → rule.birth ≡ moment
    → IsBorn v.base (given_of v) v.rules k rule.birth → BornOf v k rule moment
born_of v k rule moment past e birth born =
    let b = subst (IsBorn v.base (given_of v) v.rules k) birth born in record {
      left = b.left;
      right = b.right;
      sides = b.sides;
      knows = b.settled.rules_at.knows;
      reduces = elim b.settled.outcome [
        | inl w ↦ absurd (w.1 k rule past e birth)
        | inr w ↦ record {
          first = b.settled.left_end;
          last = b.settled.right_end;
          first_reduces = b.settled.left_reduces;
          last_reduces = b.settled.right_reduces;
          oriented = subst (λ z. IsOriented z b.settled.left_end b.settled.right_end) (same_Some _ _ (sym w.is_next ∙ e)) w.sides;
        }
      ];
    }

-- the equation that the rule is born of
pub record GivenBy (v : System) (k : ℕ) (rule : Rule) (n : ℕ) : Type 0 where
  pub equation : Equation
  pub above : 0 < n
  pub is_there : slice_get v.given (n - 1) ≡ Some equation
  pub reduces : ReducesTo v.rules k equation.left equation.right rule

pub given_by : (v : System) (k : ℕ) (rule : Rule) (n : ℕ) → BornOf v k rule (Given n) → GivenBy v k rule n
given_by v k rule n b =
    let s = b.sides in
    let x = get_of_map (λ (e : Equation). (e.left, e.right)) v.given s.0 (b.left, b.right) s.2 in
    let e : n ≡ suc s.0 = s.1 in
    let f : s.0 ≡ n - 1 = omega arith in
    let p : x.0.left ≡ b.left = ap (λ (z : List Symbol × List Symbol). z.0) x.2 in
    let q : x.0.right ≡ b.right = ap (λ (z : List Symbol × List Symbol). z.1) x.2 in
    record {
      equation = x.0;
      above = omega arith;
      is_there = subst (λ z. slice_get v.given z ≡ Some x.0) f x.1;
      reduces = subst (λ z. ReducesTo v.rules k z x.0.right rule) (sym p)
          (subst (λ z. ReducesTo v.rules k b.left z rule) (sym q) b.reduces);
    }

-- ---- the pair that a rule is born of

-- The two rules are before the rule. What they make of the word in which their left sides meet reduces to the sides of the rule.
pub record PairedBy (v : System) (k : ℕ) (rule : Rule) (place : Place) (first second : Rule) : Type 0 where
  pub is_first : RuleAt v.rules place.i first
  pub is_second : RuleAt v.rules place.j second
  pub met : Met first second place.at
  pub reduces : ReducesTo v.rules k (first_made first second place.at) (second_made first second place.at) rule
  pub first_within : place.i ≤ k
  pub second_within : place.j ≤ k

pub paired_by : (v : System) (k : ℕ) (rule : Rule) (place : Place) → BornOf v k rule (Pair place.i place.j place.at)
    → (first : Rule) × (second : Rule) × PairedBy v k rule place first second
paired_by v k rule place b =
    let p = b.sides.1 in
    let m = met_in v.rules place b.left b.right p in
    let h : max place.i place.j ≤ k = b.knows in (
      p.first,
      p.second,
      record {
        is_first = p.first_at;
        is_second = p.second_at;
        met = m.met;
        reduces = subst (λ z. ReducesTo v.rules k z (second_made p.first p.second place.at) rule) m.left_is
            (subst (λ z. ReducesTo v.rules k b.left z rule) m.right_is b.reduces);
        first_within = omega arith;
        second_within = omega arith;
      },
    )

-- the two rules are those that the numbers of the place name
pub paired_with : {v : System} {k : ℕ} {rule : Rule} {place : Place} {a b first second : Rule} → RuleAt v.rules place.i first
    → RuleAt v.rules place.j second → PairedBy v k rule place a b → PairedBy v k rule place first second
paired_with {v} {k} {rule} {place} {a} {b} {first} {second} is js p =
    subst (λ z. PairedBy v k rule place z second) (one_rule v.rules place.i a first p.is_first is)
    (subst (PairedBy v k rule place a) (one_rule v.rules place.j b second p.is_second js) p)

-- the rule that a number, counted from 1, names
pub rule_at_number : (rules : List Rule) (n : ℕ) (a : Rule) → RuleAt rules n a → slice_get rules (n - 1) ≡ Some a
rule_at_number rules n a h =
    let e : n ≡ suc h.0 = h.1 in
    let f : h.0 ≡ n - 1 = omega arith in
    subst (λ z. slice_get rules z ≡ Some a) f h.2

module _ (g : Alphabet) (first second : Rule) (at : ℕ) (m : Met first second at) (headed : IsHeaded g second.left second.right) where
  -- Both sides of a pair ask what its first rule asks.
  pub pair_headed : IsHeaded g first.left first.right → IsHeaded g (first_made first second at) (second_made first second at)
  pair_headed h = (
    h.0,
    head_front g first.right (after_first first second at) h.0 h.2,
    head_put g (take at first.left) second.left second.right (after_second first second at) h.0 headed
        (sym (ap (head_of g) (meet_at m)) ∙ head_front g first.left (after_first first second at) h.0 h.1),
  )

  -- if lines allow the left side of the first rule, they state what the second rule asks after the part that stands before it
  pub second_allows : (s : Derivation) (t : Term) → AllowsWord g s t first.left
      → IsHeadStated g s (read_word g t (take at first.left)) second.left
  second_allows s t w =
      let rest = drop at first.left in
      let allows = word_right g s t (take at first.left) rest (subst (AllowsWord g s t) (sym (take-append-drop at first.left)) w) in
      let asks = head_of_front g rest (after_first first second at) headed.0 (m.some (head_some g second.left headed.0 headed.1))
      (ap (head_of g) m.meets ∙ head_front g second.left (after_second first second at) headed.0 headed.1) in
      (headed.0, headed.1, asked_is_said g s _ rest headed.0 asks allows)

-- if lines state what a rule born of a pair asks, they state what the first rule of the pair asks
pub first_allows : (g : Alphabet) (s : Derivation) (t : Term) (v : System) (k : ℕ) (rule first second : Rule) (place : Place)
    → AreHeaded g v.rules → IsHeaded g rule.left rule.right → IsHeaded g first.left first.right
    → PairedBy v k rule place first second → IsHeadStated g s t rule.left → IsHeadStated g s t first.left
first_allows g s t v k rule first second place all w h p a =
    let e : head_of g rule.left ≡ Some h.0 = head_of_born g v.rules k _ _ rule h.0 all w p.reduces
    (head_front g first.right (after_first first second place.at) h.0 h.2) in
    (h.0, h.1, subst (ConformsIfAny s t) (same_Some _ _ (sym a.1 ∙ e)) a.2)
