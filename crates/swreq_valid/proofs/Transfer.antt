-- Rounds look at the associated types alone of the facts.
use Rattle.std.proofs.Common.{◌≡◌, inl, inr, sym, subst, Bool, List, Contains, Option, Some, None, Result, Ok, Err, IfOk}
use Rattle.swreq_rounds.specs.swreq_param.declared.ids.Step.TheVariants.{Bound, Name}
use Rattle.swreq_rounds.specs.swreq_param.Terms.{Term}
use Rattle.swreq_rounds.specs.swreq_param.Terms.Term.{Generic, Member}
use Rattle.swreq_rounds.specs.swreq_derive.Derivation.{Source, TermFacts, TermRequirement}
use Rattle.swreq_rounds.specs.swreq_derive.Derivation.TermRequirement.{Conforms, IsAnyObject, Equals}
use Rattle.swreq_complete.specs.swreq_word.Relations.{Linked}
use Rattle.swreq_complete.specs.swreq_rule.declared.rules.Rule.{Rule}
use Rattle.swreq_complete.specs.swreq_rule.Steps.{Step}
use Rattle.swreq_complete.specs.swreq_watch.declared.events.Event.{Event}
use Rattle.swreq_complete.specs.Alike.{ReduceAlike}
use Rattle.swreq_complete.specs.declared.limit.Failed.{Failed}
use Rattle.swreq_complete.specs.declared.limit.Failed.TheVariants.{Limit, Memory}
use Rattle.swreq_complete.specs.declared.limit.Limits.{Limits}
use Rattle.swreq_rounds.specs.swreq_correspondence.Shown.{ShowsUsable, ShowsValid}
use Rattle.swreq_rounds.specs.swreq_correspondence.Symbols.{Symbols, Word}
use Rattle.swreq_rounds.specs.Plan.{AreShown, AreShownByReduction, Item, Plan}
use Rattle.swreq_rounds.specs.Rounds.{ComesAfterLimit, ComesTo, IsBegunAnew, IsClosed, IsDue, IsLastRound, IsOutcome, IsRound, Joins, LeavesUsable, Next, Passed, Selects, Turns}
use Rattle.swreq_rounds.specs.Rounds.IsRound.{after, begin}
use Rattle.swreq_rounds.specs.Rounds.Selects.{none, takes, leaves}
use Rattle.swreq_rounds.specs.Rounds.Turns.{ends, joins, stops}
use Rattle.swreq_valid.specs.Answers.{Answers, IsOnlyOutcome}
use Rattle.swreq_valid.specs.Flags.{Tells, chosen}
use Rattle.swreq_valid.specs.Rounds.{AreJoined, AreRounds, AreRoundsFrom, RoundView}
use Rattle.swreq_valid.specs.Rounds.AreRoundsFrom.{before_others, begun_anew, once_more, the_last}
use Rattle.swreq_valid.proofs.Flagged.{more_to, tells_to}

module _ (m : Symbols) (f g : TermFacts) (same : f.associated_types ≡ g.associated_types) (s : Source) (C : Word → Word → Type 0) where
  pub valid_over : (t : Term) → ShowsValid m f s C t → ShowsValid m g s C t
  valid_over (Generic i) h = h
  valid_over (Member t (Name a)) (h, (p, d, k, c)) =
      (valid_over t h, (p, d, subst (λ z. Contains z (record { proto = p; name = a; assoc = d })) same k, c))
  valid_over (Member t (Bound d)) (h, (p, a, k, c)) =
      (valid_over t h, (p, a, subst (λ z. Contains z (record { proto = p; name = a; assoc = d })) same k, c))

  pub usable_over : (r : TermRequirement) → ShowsUsable m f s C r → ShowsUsable m g s C r
  usable_over (Conforms t p) h = valid_over t h
  usable_over (IsAnyObject t) h = valid_over t h
  usable_over (Equals t u) h = (valid_over t h.0, valid_over u h.1)

selects_over : {A : Type 0} {P Q : A → Type 0} → ((x : A) → P x → Q x) → ((x : A) → Q x → P x) → {xs ys : List A}
    → Selects P xs ys → Selects Q xs ys
selects_over to back none = none
selects_over to back (takes {x = x} p h) = takes (to x p) (selects_over to back h)
selects_over to back (leaves {x = x} n h) = leaves (λ q. n (back x q)) (selects_over to back h)

-- the plan with other facts
abbrev pub with_facts : Plan → TermFacts → Plan
with_facts plan g = record { symbols = plan.symbols; facts = g; base = plan.base; basic = plan.basic; all = plan.all }

module _ (limits : Limits) (plan : Plan) (g : TermFacts) (same : plan.facts.associated_types ≡ g.associated_types) where
  abbrev other : Plan
  other = with_facts plan g

  shown_over : (rules : List Rule) (x : Item) → AreShown plan rules x → AreShown other rules x
  shown_over rules x h = usable_over plan.symbols plan.facts g same x.source (Linked (Step rules)) x.requirement h

  shown_back : (rules : List Rule) (x : Item) → AreShown other rules x → AreShown plan rules x
  shown_back rules x h = usable_over plan.symbols g plan.facts (sym same) x.source (Linked (Step rules)) x.requirement h

  usable_left : (rules : List Rule) (us : List Item) → LeavesUsable plan rules us → LeavesUsable other rules us
  usable_left rules us h = selects_over (shown_over rules) (shown_back rules) h

  reduced_over : (rules : List Rule) (x : Item) → AreShownByReduction plan rules x → AreShownByReduction other rules x
  reduced_over rules x h = usable_over plan.symbols plan.facts g same x.source (ReduceAlike rules) x.requirement h

  reduced_back : (rules : List Rule) (x : Item) → AreShownByReduction other rules x → AreShownByReduction plan rules x
  reduced_back rules x h = usable_over plan.symbols g plan.facts (sym same) x.source (ReduceAlike rules) x.requirement h

  joins_over : (rules : List Rule) (used more : List Item) → Joins plan rules used more → Joins other rules used more
  joins_over rules used more j =
      selects_over (λ x h. elim h [ inl k ↦ inl k | inr k ↦ inr (reduced_over rules x k) ])
      (λ x h. elim h [ inl k ↦ inl k | inr k ↦ inr (reduced_back rules x k) ]) j

  closed_over : (used : List Item) → IsClosed limits plan used → IsClosed limits other used
  closed_over used c rules b = joins_over rules used used (c rules b)

  due_over : (used : List Item) (first : Option Passed) → IsDue limits plan used first → IsDue limits other used first
  due_over used None d = d
  due_over used (Some p) d = closed_over used d

  begun_over : (used : List Item) (p : Passed) (n : Next) → IsBegunAnew limits plan used p n → IsBegunAnew limits other used p n
  begun_over used p n b = record {
    rules = b.rules;
    bears = b.bears;
    more = b.more;
    joins = joins_over b.rules used b.more b.joins;
    others = b.others;
    next_is = b.next_is;
  }

  limit_over : (used : List Item) (first : Option Passed) (p : Passed) (n : Next) → ComesAfterLimit limits plan used first p n
      → ComesAfterLimit limits other used first p n
  limit_over used None p n (inl b) = inl (begun_over used p n b)
  limit_over used None p n (inr c) = inr (closed_over used c.0, c.1)
  limit_over used (Some f) p n c = c

  turn_over : {used : List Item} {first : Option Passed} {told : List Event} {n : Next} → Turns limits plan used first told n
      → Turns limits other used first told n
  turn_over {used = used} {n = n} (joins p e b t) = joins p e (begun_over used p n b) t
  turn_over {used = used} {first = first} (ends rules d e t (usable, l, h)) =
      ends rules (due_over used first d) e t (usable, usable_left rules usable l, h)
  turn_over {used = used} {first = first} {n = n} (stops p d e t c) = stops p (due_over used first d) e t (limit_over used first p n c)

  round_over : {used : List Item} {first : Option Passed} {told : List Event} → IsRound limits plan used first told
      → IsRound limits other used first told
  round_over begin = begin
  round_over (after r turn t) = after (round_over r) (turn_over turn) t

  last_over : (used : List Item) (rules : List Rule) (told : List Event) → IsLastRound limits plan used rules told
      → IsLastRound limits other used rules told
  last_over used rules told l = record {
    first = l.first;
    before = l.before;
    round = round_over l.round;
    due = due_over used l.first l.due;
    ends = l.ends;
    repeats = usable_left rules used l.repeats;
    told_is = l.told_is;
  }

  pub outcome_over : (answer : Result (List Rule) Failed) (told : List Event) → IsOutcome limits plan answer told
      → IsOutcome limits other answer told
  outcome_over (Ok rules) told (used, l) = (used, last_over used rules told l)
  outcome_over (Err (Limit which trace)) told s = record {
    used = s.used;
    first = s.first;
    before = s.before;
    now = s.now;
    round = round_over s.round;
    turns = turn_over s.turns;
    told_is = s.told_is;
  }
  outcome_over (Err Memory) told h = h

  comes_over : (told : List Event) → ComesTo limits plan told → ComesTo limits other told
  comes_over told c = record {
    used = c.used;
    first = c.first;
    before = c.before;
    round = round_over c.round;
    part = elim c.part [ inl e ↦ inl e | inr p ↦ inr (p.0, due_over c.used c.first p.1, p.2, p.3, p.4) ];
  }

  pub answers_over : (old new : Option (List Event)) (answer : Result (List Rule) Failed) → Answers limits plan old new answer
      → Answers limits other old new answer
  answers_over old new (Ok rules) a = (a.0, outcome_over (Ok rules) a.0 a.1, a.2)
  answers_over old new (Err (Limit which trace)) a = (a.0, outcome_over (Err (Limit which trace)) a.0 a.1, a.2)
  answers_over old new (Err Memory) a = (a.0, comes_over a.0 a.1, a.2)

  told_over : (rules : List Rule) (flags : List Bool) → Tells (AreShown plan rules) plan.all flags
      → Tells (AreShown other rules) plan.all flags
  told_over rules flags t = tells_to (AreShown plan rules) (AreShown other rules) (shown_over rules) (shown_back rules) plan.all flags t

  joined_over : (used : List Bool) (rules : List Rule) (more : List Bool) → AreJoined limits plan used rules more
      → AreJoined limits other used rules more
  joined_over used rules more j = record {
    bears = j.bears;
    joins = more_to (AreShownByReduction plan rules) (AreShownByReduction other rules) (reduced_over rules)
        (reduced_back rules) plan.all used more j.joins;
    others = j.others;
  }

  rounds_from : {used : List Bool} {first : Option Passed} {rounds : List RoundView} → AreRoundsFrom limits plan used first rounds
      → AreRoundsFrom limits other used first rounds
  rounds_from {used = used} {first = first} (the_last {rules = rules} d e t) =
      the_last (due_over (chosen plan.all used) first d) e (told_over rules used t)
  rounds_from {used = used} {first = first} (before_others {usable = usable} {rules = rules} d e t n h) =
      before_others (due_over (chosen plan.all used) first d) e (told_over rules usable t) n (rounds_from h)
  rounds_from {used = used} (begun_anew {more = more} {rules = rules} p s j h) =
      begun_anew p s (joined_over used rules more j) (rounds_from h)
  rounds_from {used = used} (once_more {more = more} {rules = rules} j h) = once_more (joined_over used rules more j) (rounds_from h)

  pub rounds_over : (rounds : List RoundView) → AreRounds limits plan rounds → AreRounds limits other rounds
  rounds_over rounds h = rounds_from h

pub only_over : (limits : Limits) (plan : Plan) (g : TermFacts) → plan.facts.associated_types ≡ g.associated_types
    → (answer : Result (List Rule) Failed)
    → IsOnlyOutcome limits plan answer → IsOnlyOutcome limits (with_facts plan g) answer
only_over limits plan g same answer only b told k = only b told (outcome_over limits (with_facts plan g) plan.facts (sym same) b told k)

pub ok_rounds_over : (limits : Limits) (plan : Plan) (g : TermFacts) → plan.facts.associated_types ≡ g.associated_types
    → (answer : Result (List RoundView) Failed)
    → IfOk answer (AreRounds limits plan) → IfOk answer (AreRounds limits (with_facts plan g))
ok_rounds_over limits plan g same (Ok rounds) h = rounds_over limits plan g same rounds h
ok_rounds_over limits plan g same (Err failed) h = tt
