-- The sides of a pair are one step from its word.
use Rattle.std.proofs.Common.{◌≡◌, ℕ, ◌-◌, inl, inr, refl, sym, ◌∙◌, ap, subst, arith, List, [], ◌++◌, append_assoc, append-nil, length, length-drop, drop}
use Rattle.std.proofs.lemmas.List.{nil_from_length}
use Rattle.swreq_rule.specs.swreq_word.declared.symbols.Symbol.{Symbol}
use Rattle.swreq_rule.specs.swreq_word.Replacement.{Replaced}
use Rattle.swreq_rule.specs.declared.rules.Rule.{Rule}
use Rattle.swreq_rule.proofs.Numbers.{one_rule}
use Rattle.swreq_rule.proofs.Overlapping.{containment_within}
use Rattle.swreq_rule.specs.declared.rules.Place.{Place}
use Rattle.swreq_pair.specs.Pairs.{OverlapPair, ContainmentPair, IsPair}
use Rattle.swreq_pair.specs.PairWords.{IsPairWord, PairWordLaw}
use Rattle.swreq_pair.proofs.Parts.{after_is}

-- the rule's right side in place of its left side at this place of w makes v
pub record PutsAt (rule : Rule) (at : ℕ) (w v : List Symbol) : Type 0 where
  pub before : List Symbol
  pub after : List Symbol
  pub source : w ≡ before ++ (rule.left ++ after)
  pub target : v ≡ before ++ (rule.right ++ after)
  pub at_is : length before ≡ at

module _ (first second : Rule) (at : ℕ) (left right : List Symbol) where
  abbrev word : List Symbol
  word = first.left ++ drop (length first.left - at) second.left

  of_overlap : OverlapPair first second at left right → PutsAt first 0 word left × PutsAt second at word right
  of_overlap p =
      let o = p.overlap in
      let rest = after_is first.left second.left at o in
      let whole : word ≡ o.before ++ second.left =
      rw rest (ap (λ x. x ++ o.after) o.first_is ∙ append_assoc o.before o.common o.after ∙ ap (λ x. o.before ++ x) (sym o.second_is)) in (
        record {
          before = [];
          after = drop (length first.left - at) second.left;
          source = refl;
          target = p.left_is ∙ ap (λ x. first.right ++ x) (sym rest);
          at_is = refl;
        },
        record {
          before = o.before;
          after = [];
          source = whole ∙ ap (λ x. o.before ++ x) (sym (append-nil second.left));
          target = p.right_is ∙ ap (λ x. o.before ++ x) (sym (append-nil second.right));
          at_is = o.at_is;
        },
      )

  of_containment : ContainmentPair first second at left right → PutsAt first 0 word left × PutsAt second at word right
  of_containment p =
      let o = p.containment in
      let within = containment_within first.left second.left at o in
      let none : drop (length first.left - at) second.left ≡ [] = nil_from_length _ (rw length-drop (omega (arith, within))) in
      let whole : word ≡ first.left = rw none (append-nil first.left) in (
        record {
          before = [];
          after = drop (length first.left - at) second.left;
          source = refl;
          target = p.left_is ∙ sym (rw none (append-nil first.right));
          at_is = refl;
        },
        record { before = o.before; after = o.after; source = whole ∙ o.first_is; target = p.right_is; at_is = o.at_is },
      )

-- both rules of a pair stand in its word, and put its sides
pub both_put : (rules : List Rule) (place : Place) (left right w : List Symbol) → (p : IsPair rules place left right)
    → IsPairWord rules place w
    → PutsAt p.first 0 w left × PutsAt p.second place.at w right
both_put rules place left right w p is =
    let e = one_rule rules place.i is.first p.first is.first_at p.first_at in
    let f = one_rule rules place.j is.second p.second is.second_at p.second_at in
    let w_is : w ≡ p.first.left ++ drop (length p.first.left - place.at) p.second.left =
    is.word_is ∙ ap (λ (x : Rule). x.left ++ drop (length x.left - place.at) is.second.left) e
    ∙ ap (λ (x : Rule). p.first.left ++ drop (length p.first.left - place.at) x.left) f in
    subst (λ u. PutsAt p.first 0 u left × PutsAt p.second place.at u right) (sym w_is)
    (elim p.kind [
      | inl o ↦ of_overlap p.first p.second place.at left right o
      | inr o ↦ of_containment p.first p.second place.at left right o.1
    ])

-- the rule's left side is replaced by its right side
replaced : (rule : Rule) (at : ℕ) (w v : List Symbol) → PutsAt rule at w v → Replaced w v rule.left rule.right
replaced rule at w v p = record { before = p.before; after = p.after; source = p.source; target = p.target }

pub pair_words : (rules : List Rule) → PairWordLaw rules
pair_words rules place left right w p is =
    let steps = both_put rules place left right w p is in (
      (record { rule = p.first; number = place.i; is_rule = p.first_at; at = replaced p.first 0 w left steps.0 }, refl),
      (record { rule = p.second; number = place.j; is_rule = p.second_at; at = replaced p.second place.at w right steps.1 }, refl),
    )
