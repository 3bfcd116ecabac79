-- Where the first equations of a completion pass a limit before a pair, all of them pass it.
use Rattle.std.proofs.Common.{◌≡◌, ◌∙◌, inl, inr, refl, sym, ap, subst, ℕ, zero, suc, arith, Bool, true, IsTrue, List, [], ◌∷◌, ◌++◌, length, Some, None, Option, MatchOption, Ok, Err}
use Rattle.std.proofs.lemmas.Bool.{and_parts}
use Rattle.std.proofs.lemmas.List.{append-nil}
use Rattle.std.specs.List.{list_all, slice_get}
use Rattle.std.proofs.lemmas.Option.{slice_get_within}
use Rattle.swreq_complete.specs.swreq_word.declared.symbols.Symbol.{Symbol}
use Rattle.swreq_complete.proofs.swreq_lemmas.Elements.{in_whole, get_left, get_front}
use Rattle.swreq_complete.specs.swreq_word.OrderLaws.{nat_less}
use Rattle.swreq_complete.specs.swreq_rule.declared.rules.Birth.{Birth}
use Rattle.swreq_complete.specs.swreq_rule.declared.rules.Birth.TheVariants.{Given, Pair}
use Rattle.swreq_complete.specs.swreq_rule.declared.rules.Rule.{Rule}
use Rattle.swreq_complete.specs.swreq_watch.declared.events.Event.{Event}
use Rattle.swreq_complete.specs.declared.limit.Failed.{Failed}
use Rattle.swreq_complete.specs.declared.limit.Failed.TheVariants.{Limit, Memory}
use Rattle.swreq_complete.specs.declared.limit.Limits.{Limits}
use Rattle.swreq_complete.specs.declared.limit.Which.{Which}
use Rattle.swreq_complete.specs.Answers.{IsAnswer}
use Rattle.swreq_complete.specs.Events.{TellsEvents, events}
use Rattle.swreq_complete.specs.Limits.{IsWithin}
use Rattle.swreq_complete.specs.Moments.{Before, HasSides}
use Rattle.swreq_complete.specs.Reached.{IsReached}
use Rattle.swreq_complete.specs.Short.{IsOfEquation}
use Rattle.swreq_complete.proofs.Outcome.{answers_are_one, within_is_prefix}
use Rattle.swreq_rounds.specs.Plan.{Plan, given}
use Rattle.swreq_rounds.specs.Rounds.{IsClosed}
use Rattle.swreq_rounds.specs.Rounds.IsRound.{begin}
use Rattle.swreq_rounds.specs.Rounds.Turns.{stops}
use Rattle.swreq_rounds.proofs.OneOutcome.{closed_among}
use Rattle.swreq_valid.specs.Answers.{Answers}
use Rattle.swreq_valid.specs.Early.{IsFront, IsLimitAmong, StopsAmong, is_given, is_of_equation}
use Rattle.swreq_valid.proofs.Running.{same_answer, same_told}

abbrev Equations : Type 0
Equations = List (List Symbol × List Symbol)

-- ---- lists

all_at : {A : Type 0} (p : A → Bool) (xs : List A) → list_all p xs ≡ true → (k : ℕ) (x : A) → slice_get xs k ≡ Some x → p x ≡ true
all_at p [] h k x e = absurd cc
all_at p (y ∷ xs) h zero x e = let is : y ≡ x = cc in ap p (sym is) ∙ (and_parts (p y) (list_all p xs) h).0
all_at p (y ∷ xs) h (suc k) x e = all_at p xs (and_parts (p y) (list_all p xs) h).1 k x e

-- ---- more equations after these

-- all rules of the trace are born of equations
abbrev AreGiven : List Rule → Type 0
AreGiven trace = (k : ℕ) (rule : Rule) → slice_get trace k ≡ Some rule → IsTrue (is_given rule)

module _ (base : ℕ) (front more : Equations) (trace : List Rule) where
  sides_more : (m : Birth) (left right : List Symbol) → HasSides base front trace m left right
      → HasSides base (front ++ more) trace m left right
  sides_more (Given n) left right (k, e, s) = (k, e, get_left front more k (left, right) s)
  sides_more (Pair i j at) left right h = h

  -- a moment before one of the front is of the front
  sides_before : (b m : Birth) (bl br left right : List Symbol) → IsTrue (is_of_equation b) → HasSides base front trace b bl br → Before m b
      → HasSides base (front ++ more) trace m left right → HasSides base front trace m left right
  sides_before (Given b) (Given n) bl br left right t (i, e, s) earlier (k, f, q) = (
    k,
    f,
    get_front front more k (left, right)
        (let l = nat_less n b earlier in let w = slice_get_within front i (bl, br) s in omega (arith, l, w, e, f)) q,
  )
  sides_before (Given b) (Pair i j at) bl br left right t h earlier q = absurd cc
  sides_before (Pair i j at) m bl br left right t h earlier q = absurd cc

  -- a trace whose rules are born of the front is reached by all
  reached_more : AreGiven trace → IsReached base front trace → IsReached base (front ++ more) trace
  reached_more among h = record {
    has_base = h.has_base;
    born = λ k rule b e. record {
      left = (h.born k rule b e).left;
      right = (h.born k rule b e).right;
      sides = sides_more rule.birth (h.born k rule b e).left (h.born k rule b e).right (h.born k rule b e).sides;
      settled = (h.born k rule b e).settled;
    };
    settled = λ k rule b e m left right s earlier. h.settled k rule b e m left right
        (sides_before rule.birth m (h.born k rule b e).left (h.born k rule b e).right left right (among k rule e)
        (h.born k rule b e).sides earlier s) earlier;
  }

  within_more : (limits : Limits) → AreGiven trace → IsWithin limits base front trace
      → IsWithin limits base (front ++ more) trace
  within_more limits among h = record { reached = reached_more among h.reached; kept = h.kept }

-- ---- a limit among the equations

pub stops_by : (limits : Limits) (front : Equations) (e : Failed) → IsAnswer limits [] front (Err e) → IsLimitAmong e
    → StopsAmong limits front
stops_by limits front (Limit which trace) h among = record { which = which; trace = trace; passes = h.1; among = among }
stops_by limits front Memory h among = absurd among

module _ (limits : Limits) (front : Equations) (s : StopsAmong limits front) where
  -- the completion does not end
  pub no_end : (trace : List Rule) → IsAnswer limits [] front (Ok trace) → ⊥
  no_end trace h = elim (answers_are_one limits [] front (Ok trace) h (Err (Limit s.which s.trace)) (refl, s.passes)) [
    | inl e ↦ absurd cc
    | inr (inl e) ↦ absurd cc
    | inr (inr e) ↦ absurd cc
  ]

  -- as far as it comes, all rules are born of equations
  among_within : (part : List Rule) → IsWithin limits 0 front part → AreGiven part
  among_within part w k rule e =
      let is = within_is_prefix limits [] front part s.trace refl w refl (inr (s.which, s.passes)) in
      all_at is_given s.trace s.among k rule
      (in_whole s.trace (length part) k rule (subst (λ (z : List Rule). slice_get z k ≡ Some rule) is e))

  module _ (more : Equations) where
    front_within : (part : List Rule) → IsWithin limits 0 front part → IsWithin limits 0 (front ++ more) part
    front_within part w = within_more 0 front more part limits (among_within part w) w

    front_answer : (e : Failed) → IsAnswer limits [] front (Err e) → IsAnswer limits [] (front ++ more) (Err e)
    front_answer (Limit which trace) h = (
      h.0,
      record {
        within = front_within trace h.1.within;
        last = h.1.last;
        rule = h.1.rule;
        past_base = h.1.past_base;
        is_last = h.1.is_last;
        is_rule = h.1.is_rule;
        passes = h.1.passes;
      },
    )
    front_answer Memory h = h

    front_told : (e : Failed) (old new : Option (List Event)) → TellsEvents limits [] front old new (Err e)
        → TellsEvents limits [] (front ++ more) old new (Err e)
    front_told (Limit which trace) old new h = h
    front_told Memory old new (inl h) = inl h
    front_told Memory old new (inr (trace, b, w, h)) = inr (trace, b, front_within trace w, h)

  of_equation : (b : Birth) → IsTrue (is_of_equation b) → IsOfEquation b
  of_equation (Given n) t = tt
  of_equation (Pair i j at) t = absurd cc

  -- where a rule that the first equations bear passes a limit, no others join by the first round
  closed_first : (plan : Plan) (which : Which) (trace : List Rule) → IsAnswer limits [] front (Err (Limit which trace))
      → IsAnswer limits plan.base (given plan []) (Err (Limit which trace)) → IsClosed limits plan []
  closed_first plan which trace h a =
      closed_among limits plan [] which trace
      (a.0, record { passes = a.1; of_equations = λ k rule lo e. of_equation rule.birth (among_within trace h.1.within k rule e) })

  first_fails : (plan : Plan) (e : Failed) (old new : Option (List Event)) → IsAnswer limits [] front (Err e)
      → IsAnswer limits plan.base (given plan []) (Err e) → TellsEvents limits plan.base (given plan []) old new (Err e)
      → Answers limits plan old new (Err e)
  first_fails plan (Limit which trace) old new h a t = (
    events (length plan.base) trace,
    record {
      used = [];
      first = None;
      before = [];
      now = events (length plan.base) trace;
      round = begin;
      turns = stops (record { which = which; trace = trace }) tt a refl (inr (closed_first plan which trace h a, refl));
      told_is = refl;
    },
    t,
  )
  first_fails plan Memory old new h a (inl t) = ([], record { used = []; first = None; before = []; round = begin; part = inl refl }, t)
  first_fails plan Memory old new h a (inr (trace, b, w, t)) = (
    events (length plan.base) trace,
    record { used = []; first = None; before = []; round = begin; part = inr (trace, tt, b, w, refl) },
    t,
  )

  -- the first round of a plan with more basic equations, over no rules, fails as the first equations do
  pub first_round_fails : (plan : Plan) (e : Failed) (old new : Option (List Event)) → plan.base ≡ [] → IsFront front plan.basic
      → IsAnswer limits [] front (Err e) → TellsEvents limits [] front old new (Err e) → Answers limits plan old new (Err e)
  first_round_fails plan e old new over (more, is) h t =
      let all : front ++ more ≡ given plan [] = sym is ∙ sym (append-nil plan.basic) in
      first_fails plan e old new h
      (same_answer limits plan.base [] (front ++ more) (given plan []) (Err e) (sym over) all (front_answer more e h))
      (same_told limits plan.base [] (front ++ more) (given plan []) old new (Err e) (sym over) all (front_told more e old new t))

pub fails_by_front : (limits : Limits) (all front : Equations) (r : Option Failed) (old new : Option (List Event)) → IsFront front all
    → MatchOption r (new ≡ old)
    (λ e. StopsAmong limits front × IsAnswer limits [] front (Err e) × TellsEvents limits [] front old new (Err e))
    → MatchOption r (new ≡ old) (λ e. (plan : Plan) → plan.base ≡ [] → plan.basic ≡ all → Answers limits plan old new (Err e))
fails_by_front limits all front None old new f h = h
fails_by_front limits all front (Some e) old new f h =
    λ plan over is. first_round_fails limits front h.0 plan e old new over (f.0, is ∙ f.1) h.1 h.2
