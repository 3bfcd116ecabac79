-- From the completion of a round to what the round comes to.
use Rattle.std.proofs.Common.{◌≡◌, ◌∙◌, inl, inr, refl, sym, ap, subst, Bool, true, false, not, true≢false, is_some, List, [], length, Option, Some, None, MatchResult, Result, Ok, Err}
use Rattle.swreq_complete.specs.swreq_rule.declared.rules.Rule.{Rule}
use Rattle.swreq_complete.specs.swreq_watch.declared.events.Event.{Event}
use Rattle.swreq_complete.specs.swreq_watch.Told.{GrewBy}
use Rattle.swreq_complete.specs.declared.limit.Failed.{Failed}
use Rattle.swreq_complete.specs.declared.limit.Failed.TheVariants.{Limit, Memory}
use Rattle.swreq_complete.specs.declared.limit.Limits.{Limits}
use Rattle.swreq_complete.specs.Events.{TellsEvents, events}
use Rattle.swreq_rounds.specs.Plan.{Plan, given}
use Rattle.swreq_rounds.specs.Rounds.{Ends, IsClosed, IsDue, Passed, Stops}
use Rattle.swreq_valid.specs.declared.underway.Passed as stored
use Rattle.swreq_valid.specs.declared.underway.Turn.{Turn}
use Rattle.swreq_valid.specs.declared.underway.Underway.{Underway}
use Rattle.swreq_valid.specs.Underway.{FailsWith, IsDueNow, IsPart, IsTaken, TurnsTo, first_of, used_by}

module _ (limits : Limits) (plan : Plan) (u : Underway) (due : IsDueNow limits plan u) (old new : Option (List Event)) where
  -- the completion ended, and then memory ran out
  pub ended_part : (rules : List Rule) → Ends limits plan (used_by limits plan u) rules
      → IsPart limits plan u (events (length plan.base) rules)
  ended_part rules end =
      inr (rules, due, end.0, record { reached = end.1.ended.reached; kept = λ k rule lo l e. end.1.kept k rule lo e }, refl)

  -- it passed a limit
  pub limit_taken : (passed : Passed) → Stops limits plan (used_by limits plan u) passed.which passed.trace
      → GrewBy old new (events (length plan.base) passed.trace) → (r : Result Turn Failed)
      → MatchResult r (TurnsTo limits plan u (events (length plan.base) passed.trace))
      (FailsWith limits plan u (events (length plan.base) passed.trace))
      → IsTaken limits plan u old new r
  limit_taken passed stop grew (Ok t) h = (events (length plan.base) passed.trace, h, grew)
  limit_taken passed stop grew (Err (Limit which trace)) h = (events (length plan.base) passed.trace, h, grew)
  limit_taken passed stop grew (Err Memory) h =
      (events (length plan.base) passed.trace, inr (passed.trace, due, stop.0, stop.1.within, refl), grew)

  -- memory ran out on the way
  pub memory_taken : TellsEvents limits plan.base (given plan (used_by limits plan u)) old new (Err Memory)
      → IsTaken limits plan u old new (Err Memory)
  memory_taken (inl g) = ([], inl refl, g)
  memory_taken (inr (trace, b, w, g)) = (events (length plan.base) trace, inr (trace, due, b, w, refl), g)

-- a round that was not begun anew is due
pub due_at_once : (limits : Limits) (plan : Plan) (u : Underway) → u.first ≡ None → IsDueNow limits plan u
due_at_once limits plan u e = subst (λ o. IsDue limits plan (used_by limits plan u) (first_of o)) (sym e) tt

-- a round that lets no others join is due, too
pub due_closed : (limits : Limits) (plan : Plan) (u : Underway) → IsClosed limits plan (used_by limits plan u) → IsDueNow limits plan u
due_closed limits plan u c = go u.first
  where
    go : (o : Option stored.Passed) → IsDue limits plan (used_by limits plan u) (first_of o)
    go None = tt
    go (Some f) = c

-- the limit that was passed first
pub some_first : (u : Underway) → (u.first ≡ None → ⊥) → (p : Passed) × (first_of u.first ≡ Some p)
some_first u n = go u.first refl
  where
    go : (o : Option stored.Passed) → u.first ≡ o → (p : Passed) × (first_of u.first ≡ Some p)
    go None e = absurd (n e)
    go (Some f) e = (record { which = f.which; trace = f.trace }, ap first_of e)

-- from whether an option is none
pub none_by : {A : Type 0} (o : Option A) (b : Bool) → is_some o ≡ not b → b ≡ true → o ≡ None
none_by None b h e = refl
none_by (Some x) b h e = absurd (true≢false (h ∙ ap not e))

pub some_by : {A : Type 0} (o : Option A) (b : Bool) → is_some o ≡ not b → b ≡ false → o ≡ None → ⊥
some_by o b h e n = true≢false (sym (h ∙ ap not e) ∙ ap is_some n)
