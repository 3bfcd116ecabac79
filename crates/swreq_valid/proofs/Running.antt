-- From what the code knows of a round to the answer of the rounds.
use Rattle.std.proofs.Common.{◌≡◌, inl, inr, refl, sym, ap, subst, subst₂, ◌∙◌, ◌<◌, List, [], ◌∷◌, ◌++◌, length, replicate, false, append_assoc, Contains, Option, None, Result, Ok, Err}
use Rattle.std.proofs.lemmas.List.{append-nil}
use Rattle.swreq_complete.specs.swreq_rule.declared.rules.Rule.{Rule}
use Rattle.swreq_complete.specs.swreq_watch.declared.events.Event.{Event}
use Rattle.swreq_complete.specs.swreq_watch.Told.{GrewBy}
use Rattle.swreq_complete.proofs.swreq_watch.Told.{grew_none, grew_on}
use Rattle.swreq_complete.specs.declared.limit.Limits.{Limits}
use Rattle.swreq_complete.specs.declared.limit.Failed.{Failed}
use Rattle.swreq_complete.specs.declared.limit.Failed.TheVariants.{Limit, Memory}
use Rattle.swreq_complete.specs.declared.limit.Which.{Which}
use Rattle.swreq_complete.specs.Answers.{IsAnswer}
use Rattle.swreq_complete.specs.Events.{TellsEvents}
use Rattle.swreq_rounds.specs.swreq_correspondence.Symbols.{Word}
use Rattle.swreq_rounds.specs.Plan.{Item, Plan, AreShown}
use Rattle.swreq_rounds.specs.Rounds.{Ends, IsRound}
use Rattle.swreq_rounds.specs.Rounds.IsRound.{after, begin}
use Rattle.swreq_rounds.specs.Rounds.Next.{ended}
use Rattle.swreq_rounds.proofs.OneOutcome.{outcomes_are_one}
use Rattle.swreq_rounds.proofs.Growing.{round_shows}
use Rattle.swreq_rounds.proofs.Turning.{lasts}
use Rattle.swreq_valid.specs.Answers.{Answers, IsOnlyOutcome}
use Rattle.swreq_valid.specs.declared.underway.Turn.TheVariants.{Goes, Lasts}
use Rattle.swreq_valid.specs.declared.underway.Underway.{Underway}
use Rattle.swreq_valid.specs.Flags.{chosen, unset}
use Rattle.swreq_valid.specs.Rounds.{AreRounds, AreRoundsFrom, RoundView, last_rules}
use Rattle.swreq_valid.specs.Underway.{ComesTo, IsPart, IsTaken, IsUnderway, first_of, used_by}
use Rattle.swreq_valid.proofs.Flagged.{chosen_unset, none_by_item}

pub same_answer : (limits : Limits) (base other : List Rule) (eqs more : List (Word × Word)) (r : Result (List Rule) Failed)
    → other ≡ base → eqs ≡ more
    → IsAnswer limits other eqs r → IsAnswer limits base more r
same_answer limits base other eqs more r e f h = subst₂ (λ b g. IsAnswer limits b g r) e f h

pub same_told : (limits : Limits) (base other : List Rule) (eqs more : List (Word × Word)) (old new : Option (List Event))
    (r : Result (List Rule) Failed)
    → other ≡ base → eqs ≡ more → TellsEvents limits other eqs old new r → TellsEvents limits base more old new r
same_told limits base other eqs more old new r e f h = subst₂ (λ b g. TellsEvents limits b g old new r) e f h

module _ (limits : Limits) (plan : Plan) where
  pub nothing_told : (old : Option (List Event)) → Answers limits plan old old (Err Memory)
  nothing_told old = ([], record { used = []; first = None; before = []; round = begin; part = inl refl }, grew_none old)

  -- an answer is the only one
  pub only : (old new : Option (List Event)) (a : Result (List Rule) Failed) → Answers limits plan old new a → IsOnlyOutcome limits plan a
  only old new (Ok rules) h other told k =
      elim (outcomes_are_one limits plan (Ok rules) other h.0 told h.1 k) [ inl e ↦ inl e.0 | inr e ↦ inr e ]
  only old new (Err (Limit which trace)) h other told k =
      elim (outcomes_are_one limits plan (Err (Limit which trace)) other h.0 told h.1 k) [ inl e ↦ inl e.0 | inr e ↦ inr e ]
  only old new (Err Memory) h other told k = inr (inl refl)

-- ---- the state between two rounds

pub last_of_more : (rounds : List RoundView) (r : RoundView) → last_rules (rounds ++ r ∷ []) ≡ r.rules
last_of_more [] r = refl
last_of_more (s ∷ []) r = refl
last_of_more (s ∷ t ∷ rounds) r = last_of_more (t ∷ rounds) r

-- The rounds come to the one that is under way; those before it and those from it on are all, and the watcher was told what those before
-- it told.
pub record IsBefore (limits : Limits) (plan : Plan) (old : Option (List Event)) (u : Underway) (mid : Option (List Event)) : Type 0 where
  pub told : List Event
  pub underway : IsUnderway limits plan u told
  pub grew : GrewBy old mid told
  pub lead : (others : List RoundView) → AreRoundsFrom limits plan u.used.items (first_of u.first) others
      → AreRounds limits plan (u.before.items ++ others)

module _ (limits : Limits) (plan : Plan) (old : Option (List Event)) where
  pub is_first : (u : Underway) → u.used.items ≡ replicate (length plan.all) false → u.first ≡ None → u.before.items ≡ []
      → IsBefore limits plan old u old
  is_first u e f g =
      let none = ap first_of f in record {
        told = [];
        underway = record {
          flags = none_by_item plan.all u.used.items e;
          round = subst₂ (λ z o. IsRound limits plan z o [])
              (sym (ap (chosen plan.all) e ∙ chosen_unset plan.all (length plan.all))) (sym none) begin;
        };
        grew = grew_none old;
        lead = λ others h. subst (λ z. AreRounds limits plan (z ++ others)) (sym g)
            (subst₂ (λ z o. AreRoundsFrom limits plan z o others) e none h);
      }

  module _ (u : Underway) (mid new : Option (List Event)) (is : IsBefore limits plan old u mid) where
    pub shows_used : (rules : List Rule) → Ends limits plan (used_by limits plan u) rules → (x : Item) → Contains (used_by limits plan u) x
        → AreShown plan rules x
    shows_used rules e x c = round_shows limits plan is.underway.round rules e x c

    limit_taken : (which : Which) (trace : List Rule) (now : List Event) → ComesTo limits plan u now (ended (Err (Limit which trace)))
        → GrewBy mid new now → Answers limits plan old new (Err (Limit which trace))
    limit_taken which trace now c g = (
      is.told ++ now,
      record {
        used = used_by limits plan u;
        first = first_of u.first;
        before = is.told;
        now = now;
        round = is.underway.round;
        turns = c;
        told_is = refl;
      },
      grew_on old mid new is.told now is.grew g,
    )

    memory_taken : (part : List Event) → IsPart limits plan u part → GrewBy mid new part → Answers limits plan old new (Err Memory)
    memory_taken part (inl e) g = (
      is.told,
      record { used = used_by limits plan u; first = first_of u.first; before = is.told; round = is.underway.round; part = inl refl },
      subst (λ z. GrewBy old new z) (append-nil is.told) (grew_on old mid new is.told [] is.grew (subst (GrewBy mid new) e g)),
    )
    memory_taken part (inr (trace, due, b, w, e)) g = (
      is.told ++ part,
      record {
        used = used_by limits plan u;
        first = first_of u.first;
        before = is.told;
        round = is.underway.round;
        part = inr (trace, due, b, w, ap (λ z. is.told ++ z) e);
      },
      grew_on old mid new is.told part is.grew g,
    )

    pub failed_taken : (e : Failed) → IsTaken limits plan u mid new (Err e) → Answers limits plan old new (Err e)
    failed_taken (Limit which trace) (now, c, g) = limit_taken which trace now c g
    failed_taken Memory (part, p, g) = memory_taken part p g

    pub last_taken : (rounds : List RoundView) → IsTaken limits plan u mid new (Ok (Lasts rounds))
        → Answers limits plan old new (Ok (last_rules rounds))
    last_taken rounds (now, l, g) =
        let end = lasts l.turns in (
          is.told ++ now,
          (
            used_by limits plan u,
            record {
              first = first_of u.first;
              before = is.told;
              round = is.underway.round;
              due = end.due;
              ends = end.ends;
              repeats = end.repeats;
              told_is = ap (λ z. is.told ++ z) end.told_is;
            },
          ),
          grew_on old mid new is.told now is.grew g,
        )

    pub all_rounds : (rounds : List RoundView) → IsTaken limits plan u mid new (Ok (Lasts rounds)) → AreRounds limits plan rounds
    all_rounds rounds (now, l, g) = subst (AreRounds limits plan) (sym l.noted) (is.lead (l.round ∷ []) l.last)

    pub is_next : (v : Underway) → IsTaken limits plan u mid new (Ok (Goes v)) → IsBefore limits plan old v new
    is_next v (now, t, g) = record {
      told = is.told ++ now;
      underway = record { flags = t.flags; round = after is.underway.round t.turns refl };
      grew = grew_on old mid new is.told now is.grew g;
      lead = λ others h. subst (λ z. AreRounds limits plan (z ++ others)) (sym t.noted)
          (subst (AreRounds limits plan) (sym (append_assoc u.before.items (t.round ∷ []) others))
          (is.lead (t.round ∷ others) (t.lead others h)));
    }

    pub fewer_left : (v : Underway) → IsTaken limits plan u mid new (Ok (Goes v)) → unset v.used.items < unset u.used.items
    fewer_left v (now, t, g) = t.fewer
