-- The rules that show a requirement that a round uses.
use Rattle.std.proofs.Common.{◌≡◌, ◌∙◌, inl, inr, ℕ, zero, suc, ◌-◌, ◌<◌, ◌^◌, List, Some, ap, arith, length, map, slice_get, sym}
use Rattle.std.proofs.lemmas.Option.{slice_get_within}
use Rattle.swreq_machine.proofs.{swreq_lemmas.Elements.{get_map, there_is}, swreq_correspondence.Shown.{usable_by_more}}
use Rattle.swreq_machine.proofs.{swreq_complete.Alike.{linked_are_alike}, swreq_valid.Flagged.{none_set}}
use Rattle.swreq_machine.specs.{swreq_rule.{declared.rules.Rule.{Rule}, Steps.{Step}}, swreq_complete.Alike.{ReduceAlike}}
use Rattle.swreq_machine.specs.{swreq_complete.{Complete.{IsComplete}, declared.limit.Limits.{Limits}}, swreq_rounds.Plan.{AreShown}}
use Rattle.swreq_machine.specs.{swreq_rounds.Plan.{AreShownByReduction, Item, Plan}, swreq_valid.{Flags.{chosen}, Rounds.{AreRounds}}}
use Rattle.swreq_machine.specs.swreq_valid.Rounds.{RoundView}
use Rattle.swreq_readings.specs.swreq_word.Relations.{Linked}
use Rattle.swreq_explain.{specs.{declared.numbered.Numbered.{Numbered}, Uses.{Origin, UsesFirst}}, proofs.RoundLemmas.{ended_complete}}
use Rattle.swreq_explain.proofs.RoundLemmas.{left_at, more_holds, none_at_first, set_holds}

-- reduction by complete rules shows what the rules show
shown_by_complete : (plan : Plan) (rules : List Rule) (x : Item) → IsComplete rules → AreShown plan rules x
    → AreShownByReduction plan rules x
shown_by_complete plan rules x c =
    usable_by_more plan.symbols plan.facts x.source (Linked (Step rules)) (ReduceAlike rules) (linked_are_alike rules c) x.requirement

-- There is a round right before this one, and reduction by its rules shows the requirement.
pub record ShownBefore (plan : Plan) (rounds : List RoundView) (round : ℕ) (x : Item) : Type 0 where
  pub before : ℕ
  pub next : round ≡ suc before
  pub earlier : RoundView
  pub there : slice_get rounds before ≡ Some earlier
  pub shows : AreShownByReduction plan earlier.rules x

module _ {limits : Limits} (plan : Plan) (o : Origin) (item : Numbered → Item) (all : plan.all ≡ map item o.all)
    (rounds : AreRounds limits plan o.rounds) (complete : IsComplete plan.base)
    (few : (k : ℕ) (r : RoundView) → slice_get o.rounds k ≡ Some r → length r.rules < 2 ^ 32 - 1) where
  pub shown_before : (round place : ℕ) (x : Numbered) → slice_get o.all place ≡ Some x → UsesFirst o.rounds round place
      → ShownBefore plan o.rounds round (item x)
  shown_before zero place x is h =
      let (r, at, set) = h.uses in
      absurd (none_set (length plan.all) place (ap (λ z. slice_get z place) (sym (none_at_first rounds r at)) ∙ set))
  shown_before (suc k) place x is h =
      let (r, at, set) = h.uses in
      let within = slice_get_within o.rounds (suc k) r at in
      let (earlier, there) = there_is o.rounds k (omega (arith, within)) in
      let is_item : slice_get plan.all place ≡ Some (item x) = ap (λ z. slice_get z place) all ∙ get_map item o.all place x is in
      record {
        before = k;
        next = omega arith;
        earlier = earlier;
        there = there;
        shows = elim (left_at rounds k earlier r there at) [
          | inl l ↦ shown_by_complete plan earlier.rules (item x)
              (ended_complete limits plan (chosen plan.all earlier.used) earlier.rules complete l.0 (few k earlier there))
              (set_holds (AreShown plan earlier.rules) plan.all r.used l.1 place (item x) is_item set)
          | inr l ↦ more_holds (AreShownByReduction plan earlier.rules) plan.all earlier.used r.used l place (item x) is_item set
              (λ e. h.none_before k (omega arith) (earlier, there, e))
        ];
      }
