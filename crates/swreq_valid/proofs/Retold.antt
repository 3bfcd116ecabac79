-- What is told once more of rounds is what they told.
use Rattle.std.proofs.Common.{◌≡◌, ◌∙◌, inl, inr, refl, sym, ap, subst, ℕ, zero, suc, ◌+◌, ◌<◌, ◌≤◌, arith, Bool, List, [], ◌∷◌, ◌++◌, append_assoc, append-nil, length, length-append, map, take, drop, get_or, slice_get, Some, None, Contains, Option, Result, Ok, Err, OnOk, OnErr, false, replicate}
use Rattle.std.proofs.lemmas.Bool.{cases_lt}
use Rattle.std.proofs.Math.Seq.{take-length}
use Rattle.std.specs.declared.alloc.AllocError.{AllocError}
use Rattle.std.proofs.lemmas.List.{drop_all, drop-append-le, length-take, map-append, take-take, take_all, take_more}
use Rattle.std.proofs.lemmas.Option.{get_or_from_slice_get, slice_get_within}
use Rattle.swreq_complete.proofs.swreq_lemmas.Elements.{in_front, in_whole}
use Rattle.swreq_complete.specs.swreq_word.declared.symbols.Symbol.{Symbol}
use Rattle.swreq_complete.specs.swreq_rule.declared.rules.Birth.{Birth}
use Rattle.swreq_complete.specs.swreq_rule.declared.rules.Rule.{Rule}
use Rattle.swreq_complete.specs.swreq_rule.Reduction.{Reduces}
use Rattle.swreq_complete.specs.swreq_watch.declared.events.Event.{Event}
use Rattle.swreq_complete.specs.swreq_watch.declared.events.Event.TheVariants.{Born, Start}
use Rattle.swreq_complete.specs.swreq_watch.Told.{GrewBy}
use Rattle.swreq_complete.proofs.swreq_watch.Told.{grew_none, grew_on}
use Rattle.swreq_complete.specs.declared.limit.Limits.{Limits}
use Rattle.swreq_complete.specs.declared.limit.Failed.TheVariants.{Memory}
use Rattle.swreq_complete.specs.Events.{events}
use Rattle.swreq_complete.specs.Limits.{IsWithin}
use Rattle.swreq_complete.specs.Moments.{Before}
use Rattle.swreq_complete.specs.Reached.{BeginsWith, IsReached}
use Rattle.swreq_complete.specs.RulesAt.{RulesAt}
use Rattle.swreq_complete.specs.Settled.{SettledBy}
use Rattle.swreq_complete.proofs.Agreement.{sides_in_front, sides_in_whole}
use Rattle.swreq_complete.proofs.Moments.{not_both}
use Rattle.swreq_rounds.specs.Plan.{AreShown, Item, Plan, given}
use Rattle.swreq_rounds.specs.Rounds.{ComesTo, Ends, IsDue, IsOutcome, IsRound, Passed, Stops}
use Rattle.swreq_rounds.specs.Rounds.IsRound.{after, begin}
use Rattle.swreq_rounds.specs.Rounds.Turns.{ends, joins, stops}
use Rattle.swreq_rounds.proofs.Growing.{round_shows}
use Rattle.swreq_valid.specs.Again.{IsFront, IsFrontOf, TellsFront, TellsRound, events_of, round_events, rules_again}
use Rattle.swreq_valid.specs.Answers.{Answers}
use Rattle.swreq_valid.specs.Flags.{Tells, chosen}
use Rattle.swreq_valid.specs.Rounds.{AreJoined, AreRounds, AreRoundsFrom, RoundView, ended_round, last_rules, short_round, stopped_round}
use Rattle.swreq_valid.specs.Rounds.AreRoundsFrom.{before_others, begun_anew, once_more, the_last}
use Rattle.swreq_valid.specs.Underway.{AreByItem}
use Rattle.swreq_valid.proofs.Flagged.{by_item, chosen_unset, none_by_item, others_chosen, tells_length, tells_selects}
use Rattle.swreq_valid.proofs.Turned.{begun_by, more_by_item}

-- ---- a front of a reached trace is reached

module _ (base : ℕ) (given : List (List Symbol × List Symbol)) (t : List Rule) (n : ℕ) where
  module _ (m : Birth) (l r : List Symbol) (count : ℕ) (below : count < n) (long : count ≤ length (take n t)) where
    rules_in_front : RulesAt base t m count → RulesAt base (take n t) m count
    rules_in_front h = record {
      has_base = h.has_base;
      within = long;
      earlier = λ k rule lo le e. h.earlier k rule lo le (in_whole t n k rule e);
      later = λ k rule lo e b. h.later k rule lo (in_whole t n k rule e) b;
      knows = h.knows;
    }

    same_front : (u v : List Symbol) → Reduces (take count t) u v → Reduces (take count (take n t)) u v
    same_front u v h = subst (λ (rules : List Rule). Reduces rules u v) (sym (take-take count n t (omega (arith, below)))) h

    settled_in_front : SettledBy base t m l r count → SettledBy base (take n t) m l r count
    settled_in_front h = record {
      rules_at = rules_in_front h.rules_at;
      left_end = h.left_end;
      right_end = h.right_end;
      left_reduces = same_front l h.left_end h.left_reduces;
      right_reduces = same_front r h.right_end h.right_reduces;
      outcome = elim h.outcome [
        | inl o ↦ inl (o.0, λ k rule lo e i. o.1 k rule lo (in_whole t n k rule e) i)
        | inr b ↦
            inr (record { rule = b.rule; is_next = in_front t n count b.rule below b.is_next; birth_is = b.birth_is; sides = b.sides })
      ];
    }

  pub front_reached : base ≤ n → IsReached base given t → IsReached base given (take n t)
  front_reached from h = record {
    has_base = (let l = length-take n t in let b = h.has_base in omega (arith, l, b, from));
    born = λ k rule lo e.
        let b = h.born k rule lo (in_whole t n k rule e) in
        let below = place_below k rule e in record {
          left = b.left;
          right = b.right;
          sides = sides_in_front base given t n rule.birth b.left b.right
              (let g = b.settled.rules_at.knows in omega (arith, g, below)) b.sides;
          settled = settled_in_front rule.birth b.left b.right k below
              (let w = slice_get_within (take n t) k rule e in omega (arith, w)) b.settled;
        };
    settled = λ k rule lo e m l r sides before.
        let (count, s) = h.settled k rule lo (in_whole t n k rule e) m l r (sides_in_whole base given t n m l r sides) before in
        let low = not_later k rule lo (in_whole t n k rule e) m count before s.rules_at in
        let below = place_below k rule e in
        let w = slice_get_within (take n t) k rule e in
        (count, settled_in_front m l r count (omega (arith, low, below)) (omega (arith, low, w)) s);
  }
    where
      place_below : (k : ℕ) (rule : Rule) → slice_get (take n t) k ≡ Some rule → k < n
      place_below k rule e = let w = slice_get_within (take n t) k rule e in let l = length-take n t in omega (arith, w, l)

      not_later : (k : ℕ) (rule : Rule) → base ≤ k → slice_get t k ≡ Some rule → (m : Birth) (count : ℕ) → Before m rule.birth
          → RulesAt base t m count → count ≤ k
      not_later k rule lo e m count before at = elim (cases_lt k count) [
        | inl l ↦ absurd (not_both m rule.birth before (at.earlier k rule lo l e))
        | inr g ↦ omega (arith, g)
      ]

-- ---- the events of rules and of rounds, one more

start_alone : (base : ℕ) (rules : List Rule) → events base (take base rules) ≡ Start base ∷ []
start_alone base rules =
    let l = length-take base rules in
    ap (λ (rs : List Rule). Start base ∷ map Born rs) (drop_all base (take base rules) (omega (arith, l)))

one_birth : (base k : ℕ) (rules : List Rule) (rule : Rule) → base ≤ k → slice_get rules k ≡ Some rule
    → events base (take (k + 1) rules) ≡ events base (take k rules) ++ Born rule ∷ []
one_birth base k rules rule from e =
    let w = slice_get_within rules k rule e in
    let more : take (k + 1) rules ≡ take k rules ++ rule ∷ [] =
    take_more rules k rule w ∙ ap (λ (r : Rule). take k rules ++ r ∷ []) (get_or_from_slice_get rules k rule rule e) in
    let l = length-take k rules in
    ap (λ (rs : List Rule). Start base ∷ map Born (drop base rs)) more
    ∙ ap (λ (rs : List Rule). Start base ∷ map Born rs) (drop-append-le base (take k rules) (rule ∷ []) (omega (arith, l, w, from)))
    ∙ ap (λ (es : List Event). Start base ∷ es) (map-append Born (drop base (take k rules)) (rule ∷ []))

module _ (base : ℕ) (rules : List Rule) (old : Option (List Event)) where
  -- the watcher was told the events of the rules before a place, which is not before the base
  abbrev pub TellsBefore : ℕ → Option (List Event) → Type 0
  TellsBefore k now = GrewBy old now (events base (take k rules)) × (base ≤ k)

  pub start_told : (now : Option (List Event)) → GrewBy old now (Start base ∷ []) → TellsBefore base now
  start_told now grew = (subst (GrewBy old now) (sym (start_alone base rules)) grew, omega arith)

  pub birth_told : (k : ℕ) (rule : Rule) (now new : Option (List Event)) → slice_get rules k ≡ Some rule → TellsBefore k now
      → GrewBy now new (Born rule ∷ []) → TellsBefore (k + 1) new
  birth_told k rule now new e told grew = let from = told.1 in (
    subst (GrewBy old new) (sym (one_birth base k rules rule from e))
        (grew_on old now new (events base (take k rules)) (Born rule ∷ []) told.0 grew),
    omega (arith, from),
  )

  pub births_told : (k : ℕ) (now : Option (List Event)) → length rules ≤ k → TellsBefore k now → GrewBy old now (events base rules)
  births_told k now l told = subst (λ (rs : List Rule). GrewBy old now (events base rs)) (take_all k rules l) told.0

  -- what was told before memory ran out
  pub none_told : (new : Option (List Event)) → new ≡ old → TellsFront base rules old new
  none_told new same = ([], inl refl, subst (λ (t : Option (List Event)). GrewBy old t []) (sym same) (grew_none old))

  pub front_told : (k : ℕ) (now new : Option (List Event)) → TellsBefore k now → new ≡ now → TellsFront base rules old new
  front_told k now new told same =
      let front = events base (take k rules) in
      (front, inr (k, told.1, refl), subst (λ (t : Option (List Event)). GrewBy old t front) (sym same) told.0)

pub one_round : (base : ℕ) (rounds : List RoundView) (r : RoundView)
    → events_of base (rounds ++ r ∷ []) ≡ events_of base rounds ++ round_events base r
one_round base [] r = append-nil (round_events base r)
one_round base (s ∷ rounds) r =
    ap (λ (es : List Event). round_events base s ++ es) (one_round base rounds r)
    ∙ sym (append_assoc (round_events base s) (events_of base rounds) (round_events base r))

pub one_more_round : (base : ℕ) (rounds : List RoundView) (k : ℕ) (r : RoundView) (old mid new : Option (List Event)) → k < length rounds
    → get_or rounds k r ≡ r → GrewBy old mid (events_of base (take k rounds)) → GrewBy mid new (round_events base r)
    → GrewBy old new (events_of base (take (k + 1) rounds))
one_more_round base rounds k r old mid new l is grew more =
    let longer : take (k + 1) rounds ≡ take k rounds ++ r ∷ [] =
    take_more rounds k r l ∙ ap (λ (x : RoundView). take k rounds ++ x ∷ []) is in
    subst (λ (es : List Event). GrewBy old new es) (sym (ap (events_of base) longer ∙ one_round base (take k rounds) r))
    (grew_on old mid new (events_of base (take k rounds)) (round_events base r) grew more)

-- ---- a front of a list

module _ {A : Type 0} where
  take_front : (xs ys : List A) (k : ℕ) → k ≤ length xs → take k (xs ++ ys) ≡ take k xs
  take_front xs ys zero l = refl
  take_front [] ys (suc k) l = absurd (omega (arith, l))
  take_front (x ∷ xs) ys (suc k) l = ap (λ z. x ∷ z) (take_front xs ys k (omega (arith, l)))

  get_in_front : (xs ys : List A) (k : ℕ) (d : A) → k < length xs → get_or (xs ++ ys) k d ≡ get_or xs k d
  get_in_front [] ys k d l = absurd (omega (arith, l))
  get_in_front (x ∷ xs) ys zero d l = refl
  get_in_front (x ∷ xs) ys (suc k) d l = get_in_front xs ys k d (omega (arith, l))

  get_at_end : (xs : List A) (x : A) → get_or (xs ++ x ∷ []) (length xs) x ≡ x
  get_at_end [] x = refl
  get_at_end (y ∷ xs) x = get_at_end xs x

-- ---- what rounds that came to their end tell once more

module _ (limits : Limits) (plan : Plan) where
  abbrev base : ℕ
  base = length plan.base

  last_of_others : {used : List Bool} {first : Option Passed} {others : List RoundView} (r : RoundView)
      → AreRoundsFrom limits plan used first others
      → last_rules (r ∷ others) ≡ last_rules others
  last_of_others r (the_last due e t) = refl
  last_of_others r (before_others due e t n rest) = refl
  last_of_others r (begun_anew p s j rest) = refl
  last_of_others r (once_more j rest) = refl

  -- a round of flags, and what those before it told
  abbrev IsAt : List Bool → Option Passed → List Event → Type 0
  IsAt used first before = AreByItem plan.all used × IsRound limits plan (chosen plan.all used) first before

  -- the round after one that ends
  next_round : (used usable : List Bool) (first : Option Passed) (before : List Event) → IsAt used first before
      → (rules : List Rule) → IsDue limits plan (chosen plan.all used) first → Ends limits plan (chosen plan.all used) rules
      → Tells (AreShown plan rules) plan.all usable → (usable ≡ used → ⊥) → IsAt usable None (before ++ events base rules)
  next_round used usable first before at rules due end t n = (
    by_item (AreShown plan rules) plan.all usable t,
    after at.1 (ends rules due end refl (
      chosen plan.all usable,
      tells_selects plan.all usable t,
      inr (
        others_chosen plan.all used usable (tells_length (Contains (chosen plan.all used)) plan.all used at.0) t
            (λ x c. round_shows limits plan at.1 rules end x c) n,
        refl,
      ),
    )) refl,
  )

  -- the one after a round that is begun anew
  anew_round : (used more : List Bool) (before : List Event) → IsAt used None before → (rules : List Rule) (p : Passed)
      → Stops limits plan (chosen plan.all used) p.which p.trace → AreJoined limits plan used rules more
      → IsAt more (Some p) (before ++ events base p.trace)
  anew_round used more before at rules p stop j = (
    more_by_item limits plan used at.0 rules more j,
    after at.1 (stops p tt stop refl (inl (begun_by limits plan used at.0 rules more j p))) refl,
  )

  -- the one after a short round
  short_after : (used more : List Bool) (before : List Event) (p : Passed) → IsAt used (Some p) before → (rules : List Rule)
      → AreJoined limits plan used rules more → IsAt more (Some p) before
  short_after used more before p at rules j = (
    more_by_item limits plan used at.0 rules more j,
    after at.1 (joins p refl (begun_by limits plan used at.0 rules more j p) refl) (sym (append-nil before)),
  )

  on_again : (r : RoundView) (more : List Bool) (later : Option Passed) (before : List Event) (others : List RoundView)
      → AreRoundsFrom limits plan more later others
      → IsOutcome limits plan (Ok (last_rules others)) ((before ++ round_events base r) ++ events_of base others)
      → IsOutcome limits plan (Ok (last_rules (r ∷ others))) (before ++ events_of base (r ∷ others))
  on_again r more later before others rest h =
      subst (λ (end : List Rule). IsOutcome limits plan (Ok end) (before ++ (round_events base r ++ events_of base others)))
      (sym (last_of_others r rest))
      (subst (λ (es : List Event). IsOutcome limits plan (Ok (last_rules others)) es)
      (append_assoc before (round_events base r) (events_of base others)) h)

  later_part : (r : RoundView) (before : List Event) (others : List RoundView) (k : ℕ) (part : List Event)
      → ComesTo limits plan ((before ++ round_events base r) ++ (events_of base (take k others) ++ part))
      → ComesTo limits plan (before ++ (events_of base (take (suc k) (r ∷ others)) ++ part))
  later_part r before others k part h =
      subst (λ (es : List Event). ComesTo limits plan es)
      (append_assoc before (round_events base r) (events_of base (take k others) ++ part)
      ∙ ap (λ (es : List Event). before ++ es) (sym (append_assoc (round_events base r) (events_of base (take k others)) part))) h

  all_again : (used : List Bool) (first : Option Passed) (before : List Event) → IsAt used first before → (rounds : List RoundView)
      → AreRoundsFrom limits plan used first rounds → IsOutcome limits plan (Ok (last_rules rounds)) (before ++ events_of base rounds)
  all_again used first before at _ (the_last {rules = rules} due end t) = (
    chosen plan.all used,
    record {
      first = first;
      before = before;
      round = at.1;
      due = due;
      ends = end;
      repeats = tells_selects plan.all used t;
      told_is = ap (λ (es : List Event). before ++ es) (append-nil (events base rules));
    },
  )
  all_again used first before at _ (before_others {usable = usable} {rules = rules} {others = others} due end t n rest) =
      on_again (ended_round used rules) usable None before others rest
      (all_again usable None (before ++ events base rules) (next_round used usable first before at rules due end t n) others rest)
  all_again used first before at _ (begun_anew {more = more} {rules = rules} {others = others} p s j rest) =
      on_again (stopped_round used p.trace rules) more (Some p) before others rest
      (all_again more (Some p) (before ++ events base p.trace) (anew_round used more before at rules p s j) others rest)
  all_again used first before at _ (once_more {more = more} {passed = p} {rules = rules} {others = others} j rest) =
      on_again (short_round used rules) more (Some p) before others rest
      (subst (λ (es : List Event). IsOutcome limits plan (Ok (last_rules others)) (es ++ events_of base others)) (sym (append-nil before))
      (all_again more (Some p) before (short_after used more before p at rules j) others rest))

  -- a front of what the completion of a round told
  front_comes : (used : List Item) (first : Option Passed) (before part : List Event) → IsRound limits plan used first before
      → IsDue limits plan used first → (trace : List Rule) → BeginsWith plan.base trace → IsWithin limits base (given plan used) trace
      → IsFront base trace part → ComesTo limits plan (before ++ part)
  front_comes used first before part round due trace begins within (inl none) = record {
    used = used;
    first = first;
    before = before;
    round = round;
    part = inl (ap (λ (es : List Event). before ++ es) none ∙ append-nil before);
  }
  front_comes used first before part round due trace begins within (inr (n, from, is)) =
      let front : BeginsWith plan.base (take n trace) = take-take base n trace from ∙ begins in
      let so_far : IsWithin limits base (given plan used) (take n trace) = record {
        reached = front_reached base (given plan used) trace n from within.reached;
        kept = λ k rule lo l e. within.kept k rule lo (let s = length-take n trace in omega (arith, l, s)) (in_whole trace n k rule e);
      } in
      record {
        used = used;
        first = first;
        before = before;
        round = round;
        part = inr (take n trace, due, front, so_far, ap (λ (es : List Event). before ++ es) is);
      }

  ended_within : (used : List Item) (rules : List Rule) → Ends limits plan used rules → IsWithin limits base (given plan used) rules
  ended_within used rules end = record { reached = end.1.ended.reached; kept = λ k rule lo l e. end.1.kept k rule lo e }

  part_again : (used : List Bool) (first : Option Passed) (before : List Event) → IsAt used first before → (rounds : List RoundView)
      → AreRoundsFrom limits plan used first rounds → (k : ℕ) (d : RoundView) (part : List Event) → k < length rounds
      → IsFrontOf base (get_or rounds k d).told part → ComesTo limits plan (before ++ (events_of base (take k rounds) ++ part))
  part_again used first before at _ (the_last {rules = rules} due end t) zero d part w is =
      front_comes (chosen plan.all used) first before part at.1 due rules end.0 (ended_within (chosen plan.all used) rules end) is
  part_again used first before at _ (the_last due end t) (suc k) d part w is = absurd (omega (arith, w))
  part_again used first before at _ (before_others {rules = rules} due end t n rest) zero d part w is =
      front_comes (chosen plan.all used) first before part at.1 due rules end.0 (ended_within (chosen plan.all used) rules end) is
  part_again used first before at _
      (before_others {usable = usable} {rules = rules} {others = others} due end t n rest) (suc k) d part w is =
      later_part (ended_round used rules) before others k part
      (part_again usable None (before ++ events base rules) (next_round used usable first before at rules due end t n) others rest k d part
      (omega (arith, w)) is)
  part_again used first before at _ (begun_anew p s j rest) zero d part w is =
      front_comes (chosen plan.all used) None before part at.1 tt p.trace s.0 s.1.within is
  part_again used first before at _ (begun_anew {more = more} {rules = rules} {others = others} p s j rest) (suc k) d part w is =
      later_part (stopped_round used p.trace rules) before others k part
      (part_again more (Some p) (before ++ events base p.trace)
      (anew_round used more before at rules p s j) others rest k d part (omega (arith, w)) is)
  part_again used first before at _ (once_more {passed = p} j rest) zero d part w is = record {
    used = chosen plan.all used;
    first = Some p;
    before = before;
    round = at.1;
    part = inl (ap (λ (es : List Event). before ++ es) is ∙ append-nil before);
  }
  part_again used first before at _ (once_more {more = more} {passed = p} {rules = rules} {others = others} j rest) (suc k) d part w is =
      later_part (short_round used rules) before others k part
      (subst (λ (es : List Event). ComesTo limits plan (es ++ (events_of base (take k others) ++ part))) (sym (append-nil before))
      (part_again more (Some p) before (short_after used more before p at rules j) others rest k d part (omega (arith, w)) is))

  module _ (rounds : List RoundView) (are : AreRounds limits plan rounds) (old new : Option (List Event)) where
    begun : IsAt (replicate (length plan.all) false) None []
    begun = (
      none_by_item plan.all (replicate (length plan.all) false) refl,
      subst (λ (used : List Item). IsRound limits plan used None []) (sym (chosen_unset plan.all (length plan.all))) begin,
    )

    pub told_again : GrewBy old new (events_of base rounds) → Answers limits plan old new (Ok (last_rules rounds))
    told_again grew = (
      events_of base rounds,
      all_again (replicate (length plan.all) false) None [] begun rounds are,
      grew,
    )

    pub lost_again : (k : ℕ) (d : RoundView) (mid : Option (List Event)) → k < length rounds
        → GrewBy old mid (events_of base (take k rounds))
        → TellsRound base (get_or rounds k d) mid new → Answers limits plan old new (Err Memory)
    lost_again k d mid l grew (part, is, more) = (
      events_of base (take k rounds) ++ part,
      part_again (replicate (length plan.all) false) None [] begun rounds are k d part l is,
      grew_on old mid new (events_of base (take k rounds)) part grew more,
    )

    -- the last of them, and those before it
    module _ (front : List RoundView) (used : List Bool) (split : rounds ≡ front ++ ended_round used (last_rules rounds) ∷ []) where
      abbrev last : RoundView
      last = ended_round used (last_rules rounds)

      pub front_lost : (k : ℕ) (d : RoundView) (mid : Option (List Event)) → k < length front
          → GrewBy old mid (events_of base (take k front))
          → TellsRound base (get_or front k d) mid new → Answers limits plan old new (Err Memory)
      front_lost k d mid l grew part =
          let long = ap length split ∙ length-append front (last ∷ []) in
          lost_again k d mid (omega (arith, l, long))
          (subst (λ (rs : List RoundView). GrewBy old mid (events_of base rs))
          (sym (ap (take k) split ∙ take_front front (last ∷ []) k (omega (arith, l)))) grew)
          (subst (λ (r : RoundView). TellsRound base r mid new)
          (sym (ap (λ (rs : List RoundView). get_or rs k d) split ∙ get_in_front front (last ∷ []) k d l)) part)

      pub all_told : (mid : Option (List Event)) → GrewBy old mid (events_of base front) → (r : Result (Unit {0}) AllocError)
          → OnOk r (GrewBy mid new (events base (last_rules rounds))) → OnErr r (TellsFront base (last_rules rounds) mid new)
          → Answers limits plan old new (rules_again rounds r)
      all_told mid grew (Ok done) ok err =
          told_again (subst (λ (es : List Event). GrewBy old new es) (sym (ap (events_of base) split ∙ one_round base front last))
          (grew_on old mid new (events_of base front) (events base (last_rules rounds)) grew ok))
      all_told mid grew (Err e) ok err =
          let long = ap length split ∙ length-append front (last ∷ []) in
          lost_again (length front) last mid (omega (arith, long))
          (subst (λ (rs : List RoundView). GrewBy old mid (events_of base rs))
          (sym (ap (take (length front)) split ∙ take_front front (last ∷ []) (length front) (omega arith) ∙ take-length front)) grew)
          (subst (λ (r : RoundView). TellsRound base r mid new)
          (sym (ap (λ (rs : List RoundView). get_or rs (length front) last) split ∙ get_at_end front last)) err)
