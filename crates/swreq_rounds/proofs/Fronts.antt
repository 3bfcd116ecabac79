-- What is told until memory runs out is a front of what is told in all.
use Rattle.std.proofs.Common.{◌≡◌, ◌⊎◌, inl, inr, refl, sym, ap, subst, ◌∙◌, ℕ, zero, suc, List, [], ◌∷◌, ◌++◌, length, take, drop, map, append_assoc, take-append-drop, Option, None, Result}
use Rattle.std.proofs.lemmas.List.{map-append}
use Rattle.swreq_complete.specs.swreq_rule.declared.rules.Rule.{Rule}
use Rattle.swreq_complete.specs.swreq_watch.declared.events.Event.{Event}
use Rattle.swreq_complete.specs.swreq_watch.declared.events.Event.TheVariants.{Start, Born}
use Rattle.swreq_complete.specs.declared.limit.Limits.{Limits}
use Rattle.swreq_complete.specs.declared.limit.Failed.{Failed}
use Rattle.swreq_complete.specs.Events.{events}
use Rattle.swreq_complete.specs.declared.limit.Which.{Which}
use Rattle.swreq_complete.specs.Limits.{EndsWithin, IsWithin, Passes}
use Rattle.swreq_complete.specs.Reached.{BeginsWith}
use Rattle.swreq_complete.proofs.Outcome.{within_is_prefix}
use Rattle.swreq_rounds.specs.Plan.{Item, Plan, given}
use Rattle.swreq_rounds.specs.Rounds.{IsDue, IsRound, Next, Passed, Turns}
use Rattle.swreq_rounds.specs.Rounds.IsRound.{after, begin}
use Rattle.swreq_rounds.specs.Rounds.Next.{ended, going}
use Rattle.swreq_rounds.specs.Rounds.Turns.{ends, joins, stops}
use Rattle.swreq_rounds.specs.Laws.{PartsAreFronts}
use Rattle.swreq_rounds.proofs.OneOutcome.{Onward, due_not_begun, one_turn, onward}
use Rattle.swreq_rounds.proofs.OneOutcome.Onward.{comes, goes}
use Rattle.swreq_rounds.proofs.Turning.{goes_not_end, same_first, same_used}

-- the one list begins with the other
abbrev Begins : {A : Type 0} → List A → List A → Type 0
Begins {A} whole part = (rest : List A) × (whole ≡ part ++ rest)

drop_front : {A : Type 0} (n : ℕ) (xs ys : List A) → Begins (drop n (xs ++ ys)) (drop n xs)
drop_front zero xs ys = (ys, refl)
drop_front (suc n) [] ys = (drop (suc n) ys, refl)
drop_front (suc n) (x ∷ xs) ys = drop_front n xs ys

-- the events of a front of a trace are a front of its events
events_front : (base : ℕ) (part whole : List Rule) → part ≡ take (length part) whole → Begins (events base whole) (events base part)
events_front base part whole e =
    let cut : whole ≡ part ++ drop (length part) whole =
    sym (take-append-drop (length part) whole) ∙ ap (λ l. l ++ drop (length part) whole) (sym e) in
    let (rest, k) = drop_front base part (drop (length part) whole) in (
      map Born rest,
      ap (λ l. Start base ∷ map Born l) (ap (drop base) cut ∙ k) ∙ ap (λ l. Start base ∷ l) (map-append Born (drop base part) rest),
    )

module _ (limits : Limits) (plan : Plan) where
  -- a round that goes on is followed by what comes of the next
  step : {used more : List Item} {first later : Option Passed} {now whole : List Event} {a : Result (List Rule) Failed}
      → Turns limits plan used first now (going more later) → Onward limits plan used first whole a
      → (rest : List Event) × Onward limits plan more later rest a × (whole ≡ now ++ rest)
  step {used = used} {more = more} {first = first} {later = later} {now = now} {whole = whole} {a = a} turn (comes x) =
      goes_not_end (one_turn limits plan used first now whole (going more later) (ended a) turn x).1
  step {used = used} {more = more} {first = first} {later = later} {now = now} {a = a} turn
      (goes {more = others} {later = still} {now = also} {rest = rest} x o e) =
      let s = one_turn limits plan used first now also (going more later) (going others still) turn x in (
        rest,
        subst (λ z. Onward limits plan more z rest a) (sym (same_first s.1))
            (subst (λ z. Onward limits plan z still rest a) (sym (same_used s.1)) o),
        e ∙ ap (λ z. z ++ rest) (sym s.0),
      )

  -- what comes of the first round comes of each round, after what the rounds before it told
  from_round : {used : List Item} {first : Option Passed} {before whole : List Event} {a : Result (List Rule) Failed}
      → IsRound limits plan used first before → Onward limits plan [] None whole a
      → (more : List Event) × Onward limits plan used first more a × (whole ≡ before ++ more)
  from_round {whole = whole} begin o = (whole, o, refl)
  from_round (after {before = before} {now = now} r turn e) o =
      let (more, q, i) = from_round r o in
      let (later, p, j) = step turn q in
      (later, p, i ∙ (ap (λ l. before ++ l) j ∙ (sym (append_assoc before now later) ∙ ap (λ l. l ++ later) (sym e))))

  module _ (used : List Item) (first : Option Passed) (trace : List Rule) (due : IsDue limits plan used first)
      (begins : BeginsWith plan.base trace)
      (within : IsWithin limits (length plan.base) (given plan used) trace) where
    front_of : (whole : List Rule) → BeginsWith plan.base whole
        → EndsWithin limits (length plan.base) (given plan used) whole
        ⊎ ((which : Which) × Passes limits (length plan.base) (given plan used) whole which)
        → Begins (events (length plan.base) whole) (events (length plan.base) trace)
    front_of whole b h =
        events_front (length plan.base) trace whole (within_is_prefix limits plan.base (given plan used) trace whole begins within b h)

    -- the events of a trace that a completion reaches are a front of what the round tells
    turn_front : {now : List Event} {n : Next} → Turns limits plan used first now n → Begins now (events (length plan.base) trace)
    turn_front {n = n} (joins p e b t) = due_not_begun limits plan used first p n e due b
    turn_front (ends rules d k t c) = subst (λ l. Begins l (events (length plan.base) trace)) (sym t) (front_of rules k.0 (inl k.1))
    turn_front (stops p d k t c) =
        subst (λ l. Begins l (events (length plan.base) trace)) (sym t) (front_of p.trace k.0 (inr (p.which, k.1)))

    round_front : {more : List Event} {a : Result (List Rule) Failed} → Onward limits plan used first more a
        → Begins more (events (length plan.base) trace)
    round_front (comes x) = turn_front x
    round_front (goes {rest = later} x o t) =
        let (rest, e) = turn_front x in
        (rest ++ later, t ∙ (ap (λ l. l ++ later) e ∙ append_assoc (events (length plan.base) trace) rest later))

  by_part : (used : List Item) (first : Option Passed) (before part told more : List Event) (a : Result (List Rule) Failed)
      → Onward limits plan used first more a → told ≡ before ++ more
      → (part ≡ before) ⊎ ((trace : List Rule) × IsDue limits plan used first × BeginsWith plan.base trace
      × IsWithin limits (length plan.base) (given plan used) trace × (part ≡ before ++ events (length plan.base) trace))
      → Begins told part
  by_part used first before part told more a o i (inl e) = (more, i ∙ ap (λ l. l ++ more) (sym e))
  by_part used first before part told more a o i (inr (trace, due, begins, within, e)) =
      let (rest, k) = round_front used first trace due begins within o in (
        rest,
        i ∙ (ap (λ l. before ++ l) k ∙ (sym (append_assoc before (events (length plan.base) trace) rest) ∙ ap (λ l. l ++ rest) (sym e))),
      )

pub parts_are_fronts : (limits : Limits) (plan : Plan) → PartsAreFronts limits plan
parts_are_fronts limits plan part told a so_far outcome = elim (onward limits plan a told outcome) [
  | inr i ↦ inl i
  | inl o ↦ (let (more, q, i) = from_round limits plan so_far.round o in
      inr (by_part limits plan so_far.used so_far.first so_far.before part told more a q i so_far.part))
]
