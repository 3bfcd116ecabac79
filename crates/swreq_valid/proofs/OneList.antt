-- The rounds of a plan are one list.
use Rattle.std.proofs.Common.{◌≡◌, ◌⊎◌, sym, ap, ap₂, subst, Bool, List, [], ◌∷◌, Contains, Option, Some, None}
use Rattle.swreq_complete.specs.swreq_rule.declared.rules.Rule.{Rule}
use Rattle.swreq_complete.specs.declared.limit.Limits.{Limits}
use Rattle.swreq_rounds.specs.Plan.{AreShown, AreShownByReduction, Plan}
use Rattle.swreq_rounds.specs.Rounds.{Ends, IsDue, Passed}
use Rattle.swreq_rounds.proofs.OneOutcome.{closed_not_begun, not_both, one_end, one_short, one_stop}
use Rattle.swreq_valid.specs.Flags.{Tells, chosen}
use Rattle.swreq_valid.specs.Rounds.{AreJoined, AreRoundsFrom, RoundView, ended_round, short_round, stopped_round}
use Rattle.swreq_valid.specs.Rounds.AreRoundsFrom.{before_others, begun_anew, once_more, the_last}
use Rattle.swreq_valid.specs.Underway.{AreByItem}
use Rattle.swreq_valid.proofs.Flagged.{by_item, more_told, one_telling}
use Rattle.swreq_valid.proofs.Turned.{begun_by, more_by_item}

module _ (limits : Limits) (plan : Plan) where
  same_end : (used : List Bool) (r s : List Rule) → Ends limits plan (chosen plan.all used) r
      → Ends limits plan (chosen plan.all used) s → r ≡ s
  same_end used r s e f = one_end limits plan (chosen plan.all used) r s e f

  same_flags : (bs cs : List Bool) (r s : List Rule) → r ≡ s → Tells (AreShown plan r) plan.all bs
      → Tells (AreShown plan s) plan.all cs → bs ≡ cs
  same_flags bs cs r s e t u = one_telling (AreShown plan s) plan.all bs cs (subst (λ z. Tells (AreShown plan z) plan.all bs) e t) u

  module _ (used : List Bool) (flags : AreByItem plan.all used) where
    same_rules : (r s : List Rule) (bs cs : List Bool) → AreJoined limits plan used r bs → AreJoined limits plan used s cs → r ≡ s
    same_rules r s bs cs j k = one_short limits plan (chosen plan.all used) r s j.bears k.bears

    same_more : (r s : List Rule) (bs cs : List Bool) → AreJoined limits plan used r bs → AreJoined limits plan used s cs → bs ≡ cs
    same_more r s bs cs j k =
        let e = same_rules r s bs cs j k in
        one_telling (λ x. Contains (chosen plan.all used) x ⊎ AreShownByReduction plan s x) plan.all bs cs
        (subst (λ z. Tells (λ x. Contains (chosen plan.all used) x ⊎ AreShownByReduction plan z x) plan.all bs) e
        (more_told (AreShownByReduction plan r) plan.all used bs flags j.joins))
        (more_told (AreShownByReduction plan s) plan.all used cs flags k.joins)

    due_not_joined : {B : Type 0} (p : Passed) (r : List Rule) (more : List Bool) → IsDue limits plan (chosen plan.all used) (Some p)
        → AreJoined limits plan used r more → B
    due_not_joined p r more d j = closed_not_begun limits plan (chosen plan.all used) d (begun_by limits plan used flags r more j p)

  pub rounds_from_are_one : {used : List Bool} {first : Option Passed} {rounds others : List RoundView} → AreByItem plan.all used
      → AreRoundsFrom limits plan used first rounds → AreRoundsFrom limits plan used first others → rounds ≡ others
  rounds_from_are_one {used = used} by (the_last {rules = r} d e t) (the_last {rules = s} c f u) =
      ap (λ z. ended_round used z ∷ []) (same_end used r s e f)
  rounds_from_are_one {used = used} by (the_last {rules = r} d e t) (before_others {usable = v} {rules = s} c f u m k) =
      absurd (m (sym (same_flags used v r s (same_end used r s e f) t u)))
  rounds_from_are_one {used = used} by (the_last {rules = r} d e t) (begun_anew p s j k) =
      not_both limits plan (chosen plan.all used) r p.which p.trace e s
  rounds_from_are_one {used = used} by (the_last d e t) (once_more {more = more} {passed = p} {rules = s} j k) =
      due_not_joined used by p s more d j
  rounds_from_are_one {used = used} by (before_others {usable = v} {rules = r} d e t n h) (the_last {rules = s} c f u) =
      absurd (n (same_flags v used r s (same_end used r s e f) t u))
  rounds_from_are_one {used = used} by (before_others {usable = v} {rules = r} d e t n h)
      (before_others {usable = w} {rules = s} {others = later} c f u m k) =
      let same = same_end used r s e f in
      ap₂ (λ z zs. ended_round used z ∷ zs) same
      (rounds_from_are_one (by_item (AreShown plan r) plan.all v t) h
      (subst (λ z. AreRoundsFrom limits plan z None later) (sym (same_flags v w r s same t u)) k))
  rounds_from_are_one {used = used} by (before_others {rules = r} d e t n h) (begun_anew p s j k) =
      not_both limits plan (chosen plan.all used) r p.which p.trace e s
  rounds_from_are_one {used = used} by (before_others d e t n h) (once_more {more = more} {passed = p} {rules = s} j k) =
      due_not_joined used by p s more d j
  rounds_from_are_one {used = used} by (begun_anew p s j h) (the_last {rules = r} d e t) =
      not_both limits plan (chosen plan.all used) r p.which p.trace e s
  rounds_from_are_one {used = used} by (begun_anew p s j h) (before_others {rules = r} d e t n k) =
      not_both limits plan (chosen plan.all used) r p.which p.trace e s
  rounds_from_are_one {used = used} by (begun_anew {more = v} {rules = r} p s j h)
      (begun_anew {more = w} {rules = q} {others = later} o u k l) =
      let same = one_stop limits plan (chosen plan.all used) p o s u in
      let rest : AreRoundsFrom limits plan v (Some p) later = subst (λ z. AreRoundsFrom limits plan v (Some z) later) (sym same)
      (subst (λ z. AreRoundsFrom limits plan z (Some o) later) (sym (same_more used by r q v w j k)) l) in
      ap₂ (λ y zs. y ∷ zs) (ap₂ (λ (z : Passed) x. stopped_round used z.trace x) same (same_rules used by r q v w j k))
      (rounds_from_are_one (more_by_item limits plan used by r v j) h rest)
  rounds_from_are_one {used = used} by (once_more {more = more} {passed = p} {rules = s} j h) (the_last d e t) =
      due_not_joined used by p s more d j
  rounds_from_are_one {used = used} by (once_more {more = more} {passed = p} {rules = s} j h) (before_others d e t n k) =
      due_not_joined used by p s more d j
  rounds_from_are_one {used = used} by (once_more {more = v} {passed = p} {rules = r} j h)
      (once_more {more = w} {rules = q} {others = later} k l) =
      ap₂ (λ x zs. short_round used x ∷ zs) (same_rules used by r q v w j k)
      (rounds_from_are_one (more_by_item limits plan used by r v j) h
      (subst (λ z. AreRoundsFrom limits plan z (Some p) later) (sym (same_more used by r q v w j k)) l))
