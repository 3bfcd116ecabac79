-- What comes after a round that goes on.
use Rattle.std.proofs.Common.{◌≡◌, inl, inr, sym, ap, ◌∙◌, ◌++◌, subst, List, length, Contains, Option, Some, None, Result, Ok, Err}
use Rattle.swreq_complete.proofs.swreq_lemmas.Members.{no_member}
use Rattle.swreq_complete.specs.swreq_rule.declared.rules.Rule.{Rule}
use Rattle.swreq_complete.specs.swreq_watch.declared.events.Event.{Event}
use Rattle.swreq_complete.specs.declared.limit.Failed.{Failed}
use Rattle.swreq_complete.specs.declared.limit.Failed.TheVariants.{Limit}
use Rattle.swreq_complete.specs.declared.limit.Limits.{Limits}
use Rattle.swreq_complete.specs.declared.limit.Which.{Which}
use Rattle.swreq_complete.specs.Events.{events}
use Rattle.swreq_rounds.specs.Plan.{Item, Plan}
use Rattle.swreq_rounds.specs.Rounds.{Bears, ComesTo, Ends, IsBegunAnew, IsDue, IsRound, IsStoppedRound, Joins, LeavesUsable, Passed, Stops, Turns}
use Rattle.swreq_rounds.specs.Rounds.IsRound.{after, begin}
use Rattle.swreq_rounds.specs.Rounds.Next.{ended, going}
use Rattle.swreq_rounds.specs.Rounds.Turns.{ends, joins, stops}
use Rattle.swreq_rounds.proofs.Members.{selected}

pub same_used : {u v : List Item} {f g : Option Passed} → going u f ≡ going v g → u ≡ v
same_used e = cc

pub same_first : {u v : List Item} {f g : Option Passed} → going u f ≡ going v g → f ≡ g
same_first e = cc

pub goes_not_end : {B : Type 0} {u : List Item} {f : Option Passed} {a : Result (List Rule) Failed} → going u f ≡ ended a → B
goes_not_end e = absurd (cc)

same_rules : (r s : List Rule) → ended (Ok r) ≡ ended (Ok s) → r ≡ s
same_rules r s e = cc

end_not_limit : {B : Type 0} (r : List Rule) (p : Passed) → ended (Ok r) ≡ ended (Err (Limit p.which p.trace)) → B
end_not_limit r p e = absurd (cc)

-- The next round uses what the rules of this one show usable, or with what this one used what joins by its short round.
pub data Goes (limits : Limits) (plan : Plan) (used more : List Item) : Type 0 where
  shown : (rules : List Rule) → Ends limits plan used rules → LeavesUsable plan rules more → (more ≡ used → ⊥) → Goes limits plan used more
  joined : (rules : List Rule) → Bears limits plan used rules → Joins plan rules used more → (more ≡ used → ⊥) → Goes limits plan used more

module _ {limits : Limits} {plan : Plan} where
  begun_goes : {used more : List Item} {later : Option Passed} {passed : Passed} → IsBegunAnew limits plan used passed (going more later)
      → Goes limits plan used more
  begun_goes {used = used} b =
      let e = sym (same_used b.next_is) in
      joined b.rules b.bears (subst (Joins plan b.rules used) e b.joins) (subst (λ z. z ≡ used → ⊥) e b.others)

  pub goes_on : {used more : List Item} {first later : Option Passed} {told : List Event}
      → Turns limits plan used first told (going more later) → Goes limits plan used more
  goes_on (joins passed e b t) = begun_goes b
  goes_on (ends rules due e t (usable, l, inl n)) = goes_not_end n.1
  goes_on {used = used} (ends rules due e t (usable, l, inr n)) =
      let i = sym (same_used n.1) in
      shown rules e (subst (LeavesUsable plan rules) i l) (subst (λ z. z ≡ used → ⊥) i n.0)
  goes_on {first = None} (stops passed due s t (inl b)) = begun_goes b
  goes_on {first = None} (stops passed due s t (inr n)) = goes_not_end n.1
  goes_on {first = Some f} (stops passed due s t n) = goes_not_end n

  -- A round uses requirements of the plan alone.
  pub round_within : {used : List Item} {first : Option Passed} {told : List Event} → IsRound limits plan used first told
      → (x : Item) → Contains used x → Contains plan.all x
  round_within begin x h = no_member x h
  round_within (after r turn t) x h = elim (goes_on turn) [
    | shown rules e l d ↦ (selected l x h).0
    | joined rules b j d ↦ (selected j x h).0
  ]

-- The round ends with these rules, and was the last.
pub record Lasts (limits : Limits) (plan : Plan) (used : List Item) (first : Option Passed) (told : List Event) (rules : List Rule) : Type 0
  where
    pub due : IsDue limits plan used first
    pub ends : Ends limits plan used rules
    pub repeats : LeavesUsable plan rules used
    pub told_is : told ≡ events (length plan.base) rules

module _ {limits : Limits} {plan : Plan} where
  pub lasts : {used : List Item} {first : Option Passed} {told : List Event} {rules : List Rule}
      → Turns limits plan used first told (ended (Ok rules)) → Lasts limits plan used first told rules
  lasts (joins passed e b t) = goes_not_end (sym b.next_is)
  lasts {used = used} {told = told} {rules = rules} (ends others due e t (usable, l, inl n)) =
      let same : others ≡ rules = same_rules others rules (sym n.1) in record {
        due = due;
        ends = subst (Ends limits plan used) same e;
        repeats = subst (λ z. LeavesUsable plan z used) same (subst (LeavesUsable plan others) n.0 l);
        told_is = subst (λ z. told ≡ events (length plan.base) z) same t;
      }
  lasts (ends others due e t (usable, l, inr n)) = goes_not_end (sym n.1)
  lasts {first = None} (stops passed due s t (inl b)) = goes_not_end (sym b.next_is)
  lasts {first = None} {rules = rules} (stops passed due s t (inr n)) = end_not_limit rules passed n.1
  lasts {first = Some f} {rules = rules} (stops passed due s t n) = end_not_limit rules f n

-- A round at which the rounds stop passes a limit, which may not be the one that is told.
pub record StopsHere (limits : Limits) (plan : Plan) (used : List Item) (first : Option Passed) (told : List Event) : Type 0 where
  pub passed : Passed
  pub due : IsDue limits plan used first
  pub stops : Stops limits plan used passed.which passed.trace
  pub told_is : told ≡ events (length plan.base) passed.trace

limit_not_end : {B : Type 0} (which : Which) (trace : List Rule) (r : List Rule) → ended (Err (Limit which trace)) ≡ ended (Ok r) → B
limit_not_end which trace r e = absurd (cc)

module _ {limits : Limits} {plan : Plan} where
  pub stops_here : {used : List Item} {first : Option Passed} {told : List Event} (which : Which) (trace : List Rule)
      → Turns limits plan used first told (ended (Err (Limit which trace))) → StopsHere limits plan used first told
  stops_here which trace (joins passed e b t) = goes_not_end (sym b.next_is)
  stops_here which trace (ends rules due e t (usable, l, inl n)) = limit_not_end which trace rules n.1
  stops_here which trace (ends rules due e t (usable, l, inr n)) = goes_not_end (sym n.1)
  stops_here which trace (stops passed due s t c) = record { passed = passed; due = due; stops = s; told_is = t }

  -- the rounds come to the round at which they stop
  pub stopped_comes : (which : Which) (trace : List Rule) (told : List Event) → IsStoppedRound limits plan which trace told
      → ComesTo limits plan told
  stopped_comes which trace told h =
      let s = stops_here which trace h.turns in record {
        used = h.used;
        first = h.first;
        before = h.before;
        round = h.round;
        part = inr (s.passed.trace, s.due, s.stops.0, s.stops.1.within, h.told_is ∙ ap (λ z. h.before ++ z) s.told_is);
      }
