-- Rounds have one outcome, and tell one list of events.
use Rattle.std.proofs.Common.{◌≡◌, ◌⊎◌, inl, inr, refl, sym, ap, ap₂, subst, ◌∙◌, List, [], ◌∷◌, ◌++◌, length, append_assoc, Contains, Option, Some, None, Result, Ok, Err}
use Rattle.swreq_complete.specs.swreq_rule.declared.rules.Rule.{Rule}
use Rattle.swreq_complete.specs.swreq_watch.declared.events.Event.{Event}
use Rattle.swreq_complete.specs.declared.limit.Limits.{Limits}
use Rattle.swreq_complete.specs.declared.limit.Which.{Which}
use Rattle.swreq_complete.specs.declared.limit.Failed.{Failed}
use Rattle.swreq_complete.specs.declared.limit.Failed.TheVariants.{Limit, Memory}
use Rattle.swreq_complete.specs.Answers.{IsAnswer, IsMemory}
use Rattle.swreq_complete.specs.Events.{events}
use Rattle.swreq_complete.specs.Short.{IsBorneBy}
use Rattle.swreq_complete.proofs.Outcome.{answers_are_one}
use Rattle.swreq_complete.proofs.Short.{borne_is_one}
use Rattle.swreq_rounds.specs.Plan.{AreShownByReduction, Item, Plan, given}
use Rattle.swreq_rounds.specs.Rounds.{Bears, ComesAfter, ComesAfterLimit, Ends, IsBegunAnew, IsClosed, IsDue, IsOutcome, IsRound, Joins, LeavesUsable, Next, Passed, Selects, Stops, Turns}
use Rattle.swreq_rounds.specs.Rounds.IsRound.{after, begin}
use Rattle.swreq_rounds.specs.Rounds.Next.{ended, going}
use Rattle.swreq_rounds.specs.Rounds.Selects.{none, takes, leaves}
use Rattle.swreq_rounds.specs.Rounds.Turns.{ends, joins, stops}
use Rattle.swreq_rounds.specs.Laws.{OutcomesAreOne}
use Rattle.swreq_rounds.proofs.Turning.{goes_not_end, same_first, same_used}

pub one_selection : {A : Type 0} {P : A → Type 0} {xs ys zs : List A} → Selects P xs ys → Selects P xs zs → ys ≡ zs
one_selection none none = refl
one_selection (takes {x = x} p h) (takes q k) = ap (λ z. x ∷ z) (one_selection h k)
one_selection (takes p h) (leaves n k) = absurd (n p)
one_selection (leaves n h) (takes p k) = absurd (n p)
one_selection (leaves n h) (leaves m k) = one_selection h k

-- answers other than that memory ran out
abbrev Answer : Type 0
Answer = Result (List Rule) Failed

abbrev ends_with : List Rule → Answer
ends_with rules = Ok rules

abbrev stops_with : Which → List Rule → Answer
stops_with which trace = Err (Limit which trace)

same_rules : (r s : List Rule) → ends_with r ≡ ends_with s → r ≡ s
same_rules r s e = cc

same_which : (w v : Which) (r s : List Rule) → stops_with w r ≡ stops_with v s → w ≡ v
same_which w v r s e = cc

same_trace : (w v : Which) (r s : List Rule) → stops_with w r ≡ stops_with v s → r ≡ s
same_trace w v r s e = cc

same_answer : (a b : Answer) → ended a ≡ ended b → a ≡ b
same_answer a b e = cc

same_passed : (p q : Passed) → p.which ≡ q.which → p.trace ≡ q.trace → p ≡ q
same_passed p q a b = λ j. record { which = a j; trace = b j }

-- ---- one round

module _ (limits : Limits) (plan : Plan) (used : List Item) where
  one_answer : (a b : Answer) → IsAnswer limits plan.base (given plan used) a → IsAnswer limits plan.base (given plan used) b
      → (IsMemory a → ⊥) → (IsMemory b → ⊥) → a ≡ b
  one_answer a b h k n m = elim (answers_are_one limits plan.base (given plan used) a h b k) [
    | inl e ↦ e
    | inr e ↦ elim e [ inl i ↦ absurd (n i) | inr i ↦ absurd (m i) ]
  ]

  pub one_end : (r s : List Rule) → Ends limits plan used r → Ends limits plan used s → r ≡ s
  one_end r s h k = same_rules r s (one_answer (Ok r) (Ok s) h k (λ e. cc) (λ e. cc))

  pub one_stop : (p q : Passed) → Stops limits plan used p.which p.trace → Stops limits plan used q.which q.trace → p ≡ q
  one_stop p q h k =
      let e = one_answer (Err (Limit p.which p.trace)) (Err (Limit q.which q.trace)) h k (λ e. cc) (λ e. cc) in
      same_passed p q (same_which p.which q.which p.trace q.trace e) (same_trace p.which q.which p.trace q.trace e)

  pub not_both : {B : Type 0} (r : List Rule) (w : Which) (s : List Rule) → Ends limits plan used r → Stops limits plan used w s → B
  not_both r w s h k = let e : ends_with r ≡ stops_with w s = one_answer (Ok r) (Err (Limit w s)) h k (λ i. cc) (λ i. cc) in absurd (cc)

  pub one_short : (r s : List Rule) → Bears limits plan used r → Bears limits plan used s → r ≡ s
  one_short r s h k = elim (borne_is_one limits plan.base (given plan used) (Ok r) h (Ok s) k) [
    | inl e ↦ same_rules r s e
    | inr e ↦
        elim e [ inl i ↦ absurd (let z : ends_with r ≡ Err Memory = i in cc) | inr i ↦ absurd (let z : ends_with s ≡ Err Memory = i in cc) ]
  ]

  -- where a rule that the equations bear by themselves passes a limit, there is no short round
  pub closed_among : (w : Which) (t : List Rule) → IsBorneBy limits plan.base (given plan used) (Err (Limit w t))
      → IsClosed limits plan used
  closed_among w t h rules b = absurd (elim (borne_is_one limits plan.base (given plan used) (Ok rules) b (Err (Limit w t)) h) [
    | inl e ↦ (let z : ends_with rules ≡ stops_with w t = e in cc)
    | inr e ↦ elim e [ inl i ↦ (let z : ends_with rules ≡ Err Memory = i in cc) | inr i ↦ (let z : stops_with w t ≡ Err Memory = i in cc) ]
  ])

  -- where the short round shows no others, there are none
  pub closed_by : (r : List Rule) → Bears limits plan used r → Joins plan r used used → IsClosed limits plan used
  closed_by r h j s k = subst (λ z. Joins plan z used used) (one_short r s h k) j

  -- no others join by the rules of a round that is closed
  pub closed_not_begun : {B : Type 0} {p : Passed} {n : Next} → IsClosed limits plan used → IsBegunAnew limits plan used p n → B
  closed_not_begun c b = absurd (b.others (one_selection b.joins (c b.rules b.bears)))

  begun_one : (p : Passed) (n m : Next) → IsBegunAnew limits plan used p n → IsBegunAnew limits plan used p m → n ≡ m
  begun_one p n m a b =
      let e = one_short a.rules b.rules a.bears b.bears in
      let i : a.more ≡ b.more = one_selection a.joins
      (subst (λ z. Selects (λ x. Contains used x ⊎ AreShownByReduction plan z x) plan.all b.more) (sym e) b.joins) in
      a.next_is ∙ ap (λ z. going z (Some p)) i ∙ sym b.next_is

  pub usable_one : {u v : List Item} (r s : List Rule) → Ends limits plan used r → Ends limits plan used s → LeavesUsable plan r u
      → LeavesUsable plan s v → u ≡ v
  usable_one {v = v} r s h k a b = one_selection a (subst (λ x. LeavesUsable plan x v) (sym (one_end r s h k)) b)

  after_one : (r s : List Rule) (n m : Next) → Ends limits plan used r → Ends limits plan used s → ComesAfter plan used r n
      → ComesAfter plan used s m → n ≡ m
  after_one r s n m h k (u, l, inl a) (v, i, inl b) = a.1 ∙ ap (λ z. ended (Ok z)) (one_end r s h k) ∙ sym b.1
  after_one r s n m h k (u, l, inl a) (v, i, inr b) = absurd (b.0 (sym (usable_one r s h k l i) ∙ a.0))
  after_one r s n m h k (u, l, inr a) (v, i, inl b) = absurd (a.0 (usable_one r s h k l i ∙ b.0))
  after_one r s n m h k (u, l, inr a) (v, i, inr b) = a.1 ∙ ap (λ z. going z None) (usable_one r s h k l i) ∙ sym b.1

  limit_one : (first : Option Passed) (p : Passed) (n m : Next) → ComesAfterLimit limits plan used first p n
      → ComesAfterLimit limits plan used first p m → n ≡ m
  limit_one None p n m (inl a) (inl b) = begun_one p n m a b
  limit_one None p n m (inl a) (inr b) = closed_not_begun b.0 a
  limit_one None p n m (inr a) (inl b) = closed_not_begun a.0 b
  limit_one None p n m (inr a) (inr b) = a.1 ∙ sym b.1
  limit_one (Some f) p n m a b = a ∙ sym b

  closed_of : (first : Option Passed) (p : Passed) → first ≡ Some p → IsDue limits plan used first → IsClosed limits plan used
  closed_of first p e due = subst (IsDue limits plan used) e due

  -- a round that is begun anew and is due lets no others join
  pub due_not_begun : {B : Type 0} (first : Option Passed) (p : Passed) (n : Next) → first ≡ Some p → IsDue limits plan used first
      → IsBegunAnew limits plan used p n → B
  due_not_begun first p n e due b = closed_not_begun (closed_of first p e due) b

  pub one_turn : (first : Option Passed) (t u : List Event) (n m : Next) → Turns limits plan used first t n
      → Turns limits plan used first u m
      → (t ≡ u) × (n ≡ m)
  one_turn first t u n m (joins p e b i) (joins q f c j) =
      let same : p ≡ q = (let k = sym e ∙ f in cc) in
      (i ∙ sym j, begun_one q n m (subst (λ z. IsBegunAnew limits plan used z n) same b) c)
  one_turn first t u n m (joins p e b i) (ends s due h j c) = due_not_begun first p n e due b
  one_turn first t u n m (joins p e b i) (stops q due h j c) = due_not_begun first p n e due b
  one_turn first t u n m (ends r due h i a) (joins q f c j) = due_not_begun first q m f due c
  one_turn first t u n m (ends r due h i a) (ends s more k j c) =
      (i ∙ ap (events (length plan.base)) (one_end r s h k) ∙ sym j, after_one r s n m h k a c)
  one_turn first t u n m (ends r due h i a) (stops q more k j c) = not_both r q.which q.trace h k
  one_turn first t u n m (stops p due h i a) (joins q f c j) = due_not_begun first q m f due c
  one_turn first t u n m (stops p due h i a) (ends s more k j c) = not_both s p.which p.trace k h
  one_turn first t u n m (stops p due h i a) (stops q more k j c) =
      let same = one_stop p q h k in (
        i ∙ ap (λ (z : Passed). events (length plan.base) z.trace) same ∙ sym j,
        limit_one first q n m (subst (λ z. ComesAfterLimit limits plan used first z n) same a) c,
      )

-- ---- the rounds from one on

pub data Onward (limits : Limits) (plan : Plan) : List Item → Option Passed → List Event → Result (List Rule) Failed → Type 0 where
  comes : {used : List Item} {first : Option Passed} {told : List Event} {answer : Result (List Rule) Failed}
      → Turns limits plan used first told (ended answer) → Onward limits plan used first told answer
  goes : {used more : List Item} {first later : Option Passed} {now rest told : List Event} {answer : Result (List Rule) Failed}
      → Turns limits plan used first now (going more later) → Onward limits plan more later rest answer → told ≡ now ++ rest
      → Onward limits plan used first told answer

module _ (limits : Limits) (plan : Plan) where
  one_onward : {used : List Item} {first : Option Passed} {t u : List Event} {a b : Answer} → Onward limits plan used first t a
      → Onward limits plan used first u b → (a ≡ b) × (t ≡ u)
  one_onward {used = used} {first = first} {t = t} {u = u} {a = a} {b = b} (comes x) (comes y) =
      let e = one_turn limits plan used first t u (ended a) (ended b) x y in
      (same_answer a b e.1, e.0)
  one_onward {used = used} {first = first} {t = t} {a = a} (comes x) (goes {more = more} {later = later} {now = now} y o e) =
      goes_not_end (one_turn limits plan used first now t (going more later) (ended a) y x).1
  one_onward {used = used} {first = first} {u = u} {b = b} (goes {more = more} {later = later} {now = now} x o e) (comes y) =
      goes_not_end (one_turn limits plan used first now u (going more later) (ended b) x y).1
  one_onward {used = used} {first = first} {b = b} (goes {more = more} {later = later} {now = now} {rest = rest} x o e)
      (goes {more = others} {later = still} {now = also} {rest = tail} y q i) =
      let s = one_turn limits plan used first now also (going more later) (going others still) x y in
      let p : Onward limits plan more later tail b = subst (λ z. Onward limits plan more z tail b) (sym (same_first s.1))
      (subst (λ z. Onward limits plan z still tail b) (sym (same_used s.1)) q) in
      let k = one_onward o p in
      (k.0, e ∙ ap₂ (λ v w. v ++ w) s.0 k.1 ∙ sym i)

  -- what comes of a round comes of the first one
  from_first : {used : List Item} {first : Option Passed} {before told : List Event} {a : Answer} → IsRound limits plan used first before
      → Onward limits plan used first told a → Onward limits plan [] None (before ++ told) a
  from_first begin o = o
  from_first {told = told} {a = a} (after {before = before} {now = now} r turn e) o =
      subst (λ z. Onward limits plan [] None z a) (sym (append_assoc before now told) ∙ ap (λ z. z ++ told) (sym e))
      (from_first r (goes turn o refl))

  -- each outcome other than that memory ran out comes of the first round
  pub onward : (a : Answer) (told : List Event) → IsOutcome limits plan a told → Onward limits plan [] None told a ⊎ IsMemory a
  onward (Ok rules) told (used, l) =
      inl (subst (λ z. Onward limits plan [] None z (Ok rules)) (sym l.told_is)
      (from_first l.round (comes (ends rules l.due l.ends refl (used, l.repeats, inl (refl, refl))))))
  onward (Err (Limit which trace)) told s =
      inl (subst (λ z. Onward limits plan [] None z (Err (Limit which trace))) (sym s.told_is) (from_first s.round (comes s.turns)))
  onward (Err Memory) told s = inr refl

pub outcomes_are_one : (limits : Limits) (plan : Plan) → OutcomesAreOne limits plan
outcomes_are_one limits plan a b told also h k = elim (onward limits plan a told h) [
  | inr i ↦ inr (inl i)
  | inl o ↦ elim (onward limits plan b also k) [
    | inr i ↦ inr (inr i)
    | inl q ↦ inl (one_onward limits plan o q)
  ]
]
