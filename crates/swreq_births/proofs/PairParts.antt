-- The word in which the left sides of the two rules of a pair meet.
use Rattle.std.proofs.Common.{◌≡◌, inl, inr, ℕ, ◌<◌, List, [], ◌++◌, length, drop, take, refl, sym, ap, ap₂, subst, ◌∙◌, arith}
use Rattle.std.proofs.{Common.{append_assoc, length-append}, lemmas.List.{append-nil, drop_all, drop_at, take_at, take-append-drop}}
use Rattle.swreq_complete.specs.swreq_pair.Pairs.{ContainmentPair, IsPair, OverlapPair}
use Rattle.swreq_complete.specs.swreq_rule.declared.rules.{Place.{Place}, Rule.{Rule}}
use Rattle.swreq_correspondence.specs.swreq_word.declared.symbols.Symbol.{Symbol}
use Rattle.swreq_births.specs.Pairs.{MeetAt, after_first, after_second, first_made, past, second_made}

-- a word in two parts, the first of this length
record InTwo (w : List Symbol) (n : ℕ) (u v : List Symbol) : Type 0 where
  front : take n w ≡ u
  back : drop n w ≡ v

in_two : (w u v : List Symbol) (n : ℕ) → w ≡ u ++ v → length u ≡ n → InTwo w n u v
in_two w u v n e h = subst (λ z. InTwo w z u v) h
    (subst (λ z. InTwo z (length u) u v) (sym e) (record { front = take_at u v (length u) refl; back = drop_at u v (length u) refl }))

-- The two left sides begin one word from this place on.
pub record Met (first second : Rule) (at : ℕ) : Type 0 where
  pub some : 0 < length second.left → 0 < length (drop at first.left)
  pub meets : drop at first.left ++ after_first first second at ≡ second.left ++ after_second first second at

pub meet_at : {first second : Rule} {at : ℕ} → Met first second at → MeetAt first second at
meet_at {first} {second} {at} m =
    ap (λ z. z ++ after_first first second at) (sym (take-append-drop at first.left))
    ∙ append_assoc (take at first.left) (drop at first.left) (after_first first second at) ∙ ap (λ z. take at first.left ++ z) m.meets

-- The two sides of a pair are what its rules make of the word in which their left sides meet.
pub record MetIn (first second : Rule) (at : ℕ) (left right : List Symbol) : Type 0 where
  pub met : Met first second at
  pub left_is : left ≡ first_made first second at
  pub right_is : right ≡ second_made first second at

module _ (first second : Rule) (at : ℕ) (left right : List Symbol) where
  overlapping : OverlapPair first second at left right → MetIn first second at left right
  overlapping p =
      let o = p.overlap in
      let x = in_two first.left o.before o.common at o.first_is o.at_is in
      let y : after_first first second at ≡ o.after = ap (past second.left) x.back ∙ ap (λ z. past z o.common) o.second_is
      ∙ drop_at o.common o.after (length o.common) refl in
      let z : after_second first second at ≡ [] = drop_all (length second.left) (drop at first.left)
      (omega (arith, ap length x.back, ap length o.second_is, length-append o.common o.after)) in record {
        met = record {
          some = λ n. omega (arith, ap length x.back, o.common_some);
          meets = ap₂ (λ v w. v ++ w) x.back y ∙ sym o.second_is ∙ sym (append-nil second.left) ∙ ap (λ w. second.left ++ w) (sym z);
        };
        left_is = p.left_is ∙ ap (λ w. first.right ++ w) (sym y);
        right_is = p.right_is ∙ ap (λ w. w ++ second.right) (sym x.front)
            ∙ ap (λ w. take at first.left ++ w) (sym (append-nil second.right) ∙ ap (λ w. second.right ++ w) (sym z));
      }

  containing : ContainmentPair first second at left right → MetIn first second at left right
  containing p =
      let o = p.containment in
      let x = in_two first.left o.before (second.left ++ o.after) at o.first_is o.at_is in
      let y : after_first first second at ≡ [] = drop_all (length (drop at first.left)) second.left
      (omega (arith, ap length x.back, length-append second.left o.after)) in
      let z : after_second first second at ≡ o.after = ap (λ w. past w second.left) x.back
      ∙ drop_at second.left o.after (length second.left) refl in record {
        met = record {
          some = λ n. omega (arith, n, ap length x.back, length-append second.left o.after);
          meets = ap₂ (λ v w. v ++ w) x.back y ∙ append-nil (second.left ++ o.after) ∙ ap (λ w. second.left ++ w) (sym z);
        };
        left_is = p.left_is ∙ sym (append-nil first.right) ∙ ap (λ w. first.right ++ w) (sym y);
        right_is = p.right_is ∙ ap₂ (λ v w. v ++ (second.right ++ w)) (sym x.front) (sym z);
      }

pub met_in : (rules : List Rule) (place : Place) (left right : List Symbol) (p : IsPair rules place left right)
    → MetIn p.first p.second place.at left right
met_in rules place left right p = elim p.kind [
  | inl o ↦ overlapping p.first p.second place.at left right o
  | inr o ↦ containing p.first p.second place.at left right o.1
]
