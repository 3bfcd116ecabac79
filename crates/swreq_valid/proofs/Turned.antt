-- From what the code does after a round to what the round comes to.
use Rattle.std.proofs.Common.{◌≡◌, ◌⊎◌, inl, inr, refl, sym, ap, subst, subst₂, ◌∙◌, ◌<◌, Bool, List, [], ◌∷◌, ◌++◌, length, Contains, Option, Some, None, MatchOption, IfOk, Result, Ok, Err}
use Rattle.swreq_complete.specs.swreq_rule.declared.rules.Rule.{Rule}
use Rattle.swreq_complete.specs.declared.limit.Failed.{Failed}
use Rattle.swreq_complete.specs.declared.limit.Failed.TheVariants.{Limit}
use Rattle.swreq_complete.specs.declared.limit.Limits.{Limits}
use Rattle.swreq_complete.specs.Events.{events}
use Rattle.swreq_complete.specs.Short.{IsBorneBy}
use Rattle.swreq_rounds.specs.swreq_correspondence.Symbols.{Word}
use Rattle.swreq_rounds.specs.swreq_param.Terms.{Term}
use Rattle.std.specs.declared.alloc.AllocError.{AllocError}
use Rattle.swreq_rounds.specs.Plan.{AreShown, AreShownByReduction, Item, Plan}
use Rattle.swreq_rounds.specs.Rounds.{Bears, Ends, IsBegunAnew, IsClosed, IsDue, Joins, Passed, Stops, Turns}
use Rattle.swreq_rounds.specs.Rounds.Next.{ended, going}
use Rattle.swreq_rounds.specs.Rounds.Turns.{ends, joins, stops}
use Rattle.swreq_valid.specs.declared.underway.Joined.{Joined}
use Rattle.swreq_valid.specs.declared.underway.Passed as stored
use Rattle.swreq_valid.specs.declared.underway.Underway.{Underway}
use Rattle.swreq_valid.specs.declared.wanted.RoundRequirement.{RoundRequirement}
use Rattle.swreq_valid.specs.Flags.{Tells, TellsMore, chosen, unset}
use Rattle.swreq_valid.specs.Plans.{items_of}
use Rattle.swreq_valid.specs.Rounds.{AreJoined, AreRoundsFrom, RoundView, ended_round, last_rules, short_round, stopped_round}
use Rattle.swreq_valid.specs.Rounds.AreRoundsFrom.{before_others, begun_anew, once_more, the_last}
use Rattle.swreq_valid.specs.Underway.{AreByItem, FailsWith, GoesTo, IsDueNow, IsLastOf, first_of, used_by}
use Rattle.swreq_rounds.proofs.OneOutcome.{closed_by}
use Rattle.swreq_valid.proofs.Planning.{items_length}
use Rattle.swreq_valid.proofs.Flagged.{by_item, fewer_unset, more_told, others_chosen, tells_length, tells_selects}
use Rattle.swreq_valid.proofs.Running.{last_of_more}

-- ---- what joins

module _ (limits : Limits) (plan : Plan) (used : List Bool) (flags : AreByItem plan.all used) where
  joins_of : (rules : List Rule) (more : List Bool) → TellsMore (AreShownByReduction plan rules) plan.all used more
      → Joins plan rules (chosen plan.all used) (chosen plan.all more)
  joins_of rules more t = tells_selects plan.all more (more_told (AreShownByReduction plan rules) plan.all used more flags t)

  module _ (rules : List Rule) (more : List Bool) (j : AreJoined limits plan used rules more) where
    told : Tells (λ x. Contains (chosen plan.all used) x ⊎ AreShownByReduction plan rules x) plan.all more
    told = more_told (AreShownByReduction plan rules) plan.all used more flags j.joins

    long : length used ≡ length plan.all
    long = tells_length (Contains (chosen plan.all used)) plan.all used flags

    pub more_by_item : AreByItem plan.all more
    more_by_item = by_item (λ x. Contains (chosen plan.all used) x ⊎ AreShownByReduction plan rules x) plan.all more told

    pub fewer_by_more : unset more < unset used
    fewer_by_more = fewer_unset plan.all used more long told (λ x c. inl c) j.others

    pub begun_by : (passed : Passed) → IsBegunAnew limits plan (chosen plan.all used) passed (going (chosen plan.all more) (Some passed))
    begun_by passed = record {
      rules = rules;
      bears = j.bears;
      more = chosen plan.all more;
      joins = joins_of rules more j.joins;
      others = others_chosen plan.all used more long told (λ x c. inl c) j.others;
      next_is = refl;
    }

pub flags_long : (terms : List Term) (xs : List RoundRequirement) (used : List Bool) → AreByItem (items_of terms xs) used
    → length used ≡ length xs
flags_long terms xs used flags =
    tells_length (Contains (chosen (items_of terms xs) used)) (items_of terms xs) used flags ∙ items_length terms xs

pub same_borne : (limits : Limits) (base other : List Rule) (eqs more : List (Word × Word)) (r : Result (List Rule) Failed)
    → other ≡ base → eqs ≡ more
    → IsBorneBy limits other eqs r → IsBorneBy limits base more r
same_borne limits base other eqs more r e f h = subst₂ (λ b g. IsBorneBy limits b g r) e f h

module _ (limits : Limits) (plan : Plan) (used : List Bool) (flags : AreByItem plan.all used) (rules : List Rule)
    (bears : Bears limits plan (chosen plan.all used) rules) where
  -- what the code finds to join by the short round
  abbrev Finds : Joined → Type 0
  Finds j = (j.rules ≡ rules) × (j.more.items ≡ used → ⊥) × TellsMore (AreShownByReduction plan rules) plan.all used j.more.items

  pub joined_result : (r : Result (Option Joined) AllocError)
      → IfOk r (λ o. MatchOption o (TellsMore (AreShownByReduction plan rules) plan.all used used) Finds)
      → IfOk r (λ o. MatchOption o (IsClosed limits plan (chosen plan.all used)) (λ j. AreJoined limits plan used j.rules j.more.items))
  joined_result (Ok None) t = closed_by limits plan (chosen plan.all used) rules bears (joins_of limits plan used flags rules used t)
  joined_result (Ok (Some j)) h = record {
    bears = subst (Bears limits plan (chosen plan.all used)) (sym h.0) bears;
    joins = subst (λ z. TellsMore (AreShownByReduction plan z) plan.all used j.more.items) (sym h.0) h.2;
    others = h.1;
  }
  joined_result (Err e) h = tt

-- ---- what a round comes to

module _ (limits : Limits) (plan : Plan) (u : Underway) (flags : AreByItem plan.all u.used.items) where
  -- after a round that ends
  module _ (rules : List Rule) (due : IsDueNow limits plan u) (end : Ends limits plan (used_by limits plan u) rules)
      (shown : (x : Item) → Contains (used_by limits plan u) x → AreShown plan rules x) where
    pub lasts_here : Tells (AreShown plan rules) plan.all u.used.items → (rounds : List RoundView)
        → rounds ≡ u.before.items ++ ended_round u.used.items rules ∷ [] → IsLastOf limits plan u rounds (events (length plan.base) rules)
    lasts_here t rounds e = record {
      turns = ends rules due end refl (
        used_by limits plan u,
        tells_selects plan.all u.used.items t,
        inl (refl, ap (λ z. ended (Ok z)) (ap last_rules e ∙ last_of_more u.before.items (ended_round u.used.items rules))),
      );
      round = ended_round u.used.items rules;
      noted = e;
      last = the_last due end t;
    }

    pub goes_after : (v : Underway) → Tells (AreShown plan rules) plan.all v.used.items → (v.used.items ≡ u.used.items → ⊥) → v.first ≡ None
        → v.before.items ≡ u.before.items ++ ended_round u.used.items rules ∷ [] → GoesTo limits plan u v (events (length plan.base) rules)
    goes_after v t n f e =
        let long = tells_length (Contains (used_by limits plan u)) plan.all u.used.items flags in
        let none = sym (ap first_of f) in record {
          turns = ends rules due end refl (
            used_by limits plan v,
            tells_selects plan.all v.used.items t,
            inr (others_chosen plan.all u.used.items v.used.items long t shown n, ap (going (used_by limits plan v)) (sym none)),
          );
          flags = by_item (AreShown plan rules) plan.all v.used.items t;
          fewer = fewer_unset plan.all u.used.items v.used.items long t shown n;
          round = ended_round u.used.items rules;
          noted = e;
          lead = λ others h. before_others due end t n (subst (λ o. AreRoundsFrom limits plan v.used.items o others) (sym none) h);
        }

  -- after one that passes a limit and was not begun anew
  module _ (first : u.first ≡ None) (passed : Passed) (stop : Stops limits plan (used_by limits plan u) passed.which passed.trace) where
    none : first_of u.first ≡ None
    none = ap first_of first

    pub stops_here : IsClosed limits plan (used_by limits plan u)
        → FailsWith limits plan u (events (length plan.base) passed.trace) (Limit passed.which passed.trace)
    stops_here c =
        subst (λ o. Turns limits plan (used_by limits plan u) o (events (length plan.base) passed.trace)
        (ended (Err (Limit passed.which passed.trace))))
        (sym none) (stops passed tt stop refl (inr (c, refl)))

    pub begins_anew : (rules : List Rule) (v : Underway) → AreJoined limits plan u.used.items rules v.used.items
        → first_of v.first ≡ Some passed
        → v.before.items ≡ u.before.items ++ stopped_round u.used.items passed.trace rules ∷ []
        → GoesTo limits plan u v (events (length plan.base) passed.trace)
    begins_anew rules v j f e = record {
      turns = subst₂ (λ o p.
          Turns limits plan (used_by limits plan u) o (events (length plan.base) passed.trace) (going (used_by limits plan v) p))
          (sym none) (sym f) (stops passed tt stop refl (inl (begun_by limits plan u.used.items flags rules v.used.items j passed)));
      flags = more_by_item limits plan u.used.items flags rules v.used.items j;
      fewer = fewer_by_more limits plan u.used.items flags rules v.used.items j;
      round = stopped_round u.used.items passed.trace rules;
      noted = e;
      lead = λ others h.
          subst (λ o. AreRoundsFrom limits plan u.used.items o (stopped_round u.used.items passed.trace rules ∷ others)) (sym none)
          (begun_anew passed stop j (subst (λ o. AreRoundsFrom limits plan v.used.items o others) f h));
    }

  -- after a short round
  module _ (passed : Passed) (first : first_of u.first ≡ Some passed) where
    pub goes_once_more : (rules : List Rule) (v : Underway) → AreJoined limits plan u.used.items rules v.used.items → v.first ≡ u.first
        → v.before.items ≡ u.before.items ++ short_round u.used.items rules ∷ [] → GoesTo limits plan u v []
    goes_once_more rules v j f e =
        let again = ap first_of f ∙ first in record {
          turns = joins passed first
              (subst (λ o. IsBegunAnew limits plan (used_by limits plan u) passed (going (used_by limits plan v) o)) (sym again)
              (begun_by limits plan u.used.items flags rules v.used.items j passed)) refl;
          flags = more_by_item limits plan u.used.items flags rules v.used.items j;
          fewer = fewer_by_more limits plan u.used.items flags rules v.used.items j;
          round = short_round u.used.items rules;
          noted = e;
          lead = λ others h. subst (λ o. AreRoundsFrom limits plan u.used.items o (short_round u.used.items rules ∷ others)) (sym first)
              (once_more j (subst (λ o. AreRoundsFrom limits plan v.used.items o others) again h));
        }

  -- one that was begun anew and passes a limit ends in the limit that was passed first
  pub stops_first : (f : stored.Passed) (passed : Passed) → u.first ≡ Some f → IsDueNow limits plan u
      → Stops limits plan (used_by limits plan u) passed.which passed.trace
      → FailsWith limits plan u (events (length plan.base) passed.trace) (Limit f.which f.trace)
  stops_first f passed e due stop =
      let is = ap first_of e in
      subst (λ o.
      Turns limits plan (used_by limits plan u) o (events (length plan.base) passed.trace) (ended (Err (Limit f.which f.trace)))) (sym is)
      (stops passed (subst (IsDue limits plan (used_by limits plan u)) is due) stop refl refl)

  -- so it ends in the limit that was passed first, where there was one
  pub ends_in_first : (passed : Passed) (failed : Failed) → (u.first ≡ None → ⊥)
      → MatchOption u.first (Unit {0}) (λ f. failed ≡ Limit f.which f.trace)
      → IsDueNow limits plan u → Stops limits plan (used_by limits plan u) passed.which passed.trace
      → FailsWith limits plan u (events (length plan.base) passed.trace) failed
  ends_in_first passed failed some is due stop = go u.first refl is
    where
      go : (o : Option stored.Passed) → u.first ≡ o → MatchOption o (Unit {0}) (λ f. failed ≡ Limit f.which f.trace)
          → FailsWith limits plan u (events (length plan.base) passed.trace) failed
      go None e i = absurd (some e)
      go (Some f) e i = subst (FailsWith limits plan u (events (length plan.base) passed.trace)) (sym i) (stops_first f passed e due stop)
