-- The rounds of a plan, by their places.
use Rattle.std.proofs.Common.{◌≡◌, ◌∙◌, ◌⊎◌, inl, inr, ℕ, zero, suc, ◌-◌, ◌<◌, ◌^◌, Bool, true, false, List, [], ◌∷◌, Option, Some, ap}
use Rattle.std.proofs.{Common.{arith, length, refl, replicate, slice_get, subst, sym}, lemmas.List.{length-replicate}}
use Rattle.std.proofs.lemmas.Option.{slice_get_within}
use Rattle.swreq_machine.proofs.{swreq_lemmas.Elements.{contains_get, get_contains, there_is}, swreq_complete.Ended.{pairs_meet}}
use Rattle.swreq_machine.proofs.{swreq_complete.Outcome.{fresh_of_reached}, swreq_valid.Flagged.{chosen_in, tells_length}}
use Rattle.swreq_machine.specs.{swreq_rule.declared.rules.Rule.{Rule}, swreq_complete.{Complete.{IsComplete}, Reached.{BeginsWith}}}
use Rattle.swreq_machine.specs.{swreq_complete.{Reached.{IsReached}, declared.limit.Limits.{Limits}}, swreq_rounds.Plan.{AreShown}}
use Rattle.swreq_machine.specs.swreq_rounds.{Plan.{AreShownByReduction, Item, Plan, given}, Rounds.{Ends, Passed}}
use Rattle.swreq_machine.specs.swreq_valid.{Flags.{Tells, TellsMore, chosen}, Rounds.{AreRounds, AreRoundsFrom, RoundView, ended_round}}
use Rattle.swreq_machine.specs.swreq_valid.Rounds.{last_rules, short_round, stopped_round, AreRoundsFrom.{before_others, begun_anew}}
use Rattle.swreq_machine.specs.swreq_valid.Rounds.AreRoundsFrom.{once_more, the_last}
use Rattle.swreq_explain.specs.Uses.{HaveFlags}

-- ---- flags

module _ {A : Type 0} where
  -- what the flags choose from a list stands in the list
  pub chosen_of : (xs : List A) (bs : List Bool) (k : ℕ) (x : A) → slice_get (chosen xs bs) k ≡ Some x → (j : ℕ) × (slice_get xs j ≡ Some x)
  chosen_of xs bs k x e = contains_get xs x (chosen_in xs bs x (get_contains (chosen xs bs) k x e))

  -- what the flags tell holds of an item whose flag is set
  pub set_holds : (P : A → Type 0) (xs : List A) (bs : List Bool) → Tells P xs bs → (k : ℕ) (x : A) → slice_get xs k ≡ Some x
      → slice_get bs k ≡ Some true → P x
  set_holds P [] [] t k x e f = cc
  set_holds P [] (b ∷ bs) t k x e f = absurd t
  set_holds P (y ∷ xs) [] t k x e f = absurd t
  set_holds P (y ∷ xs) (b ∷ bs) t zero x e f = let same : y ≡ x = cc in let set : b ≡ true = cc in subst P same (t.0.0 set)
  set_holds P (y ∷ xs) (b ∷ bs) t (suc k) x e f = set_holds P xs bs t.1 k x e f

  -- what the second flags tell more than the first holds of an item whose second flag is set and whose first flag is not
  pub more_holds : (P : A → Type 0) (xs : List A) (bs cs : List Bool) → TellsMore P xs bs cs → (k : ℕ) (x : A) → slice_get xs k ≡ Some x
      → slice_get cs k ≡ Some true → (slice_get bs k ≡ Some true → ⊥) → P x
  more_holds P [] [] [] t k x e f no_flag = cc
  more_holds P [] [] (c ∷ cs) t k x e f no_flag = absurd t
  more_holds P [] (b ∷ bs) [] t k x e f no_flag = absurd t
  more_holds P [] (b ∷ bs) (c ∷ cs) t k x e f no_flag = absurd t
  more_holds P (y ∷ xs) [] [] t k x e f no_flag = absurd t
  more_holds P (y ∷ xs) [] (c ∷ cs) t k x e f no_flag = absurd t
  more_holds P (y ∷ xs) (b ∷ bs) [] t k x e f no_flag = absurd t
  more_holds P (y ∷ xs) (b ∷ bs) (c ∷ cs) t zero x e f no_flag =
      let same : y ≡ x = cc in
      let set : c ≡ true = cc in
      elim (t.0.0 set) [ inl h ↦ absurd (no_flag (ap Some h)) | inr h ↦ subst P same h ]
  more_holds P (y ∷ xs) (b ∷ bs) (c ∷ cs) t (suc k) x e f no_flag = more_holds P xs bs cs t.1 k x e f no_flag

  pub more_length : (P : A → Type 0) (xs : List A) (bs cs : List Bool) → TellsMore P xs bs cs → length cs ≡ length xs
  more_length P [] [] [] t = refl
  more_length P [] [] (c ∷ cs) t = absurd t
  more_length P [] (b ∷ bs) [] t = absurd t
  more_length P [] (b ∷ bs) (c ∷ cs) t = absurd t
  more_length P (y ∷ xs) [] [] t = absurd t
  more_length P (y ∷ xs) [] (c ∷ cs) t = absurd t
  more_length P (y ∷ xs) (b ∷ bs) [] t = absurd t
  more_length P (y ∷ xs) (b ∷ bs) (c ∷ cs) t = ap suc (more_length P xs bs cs t.1)

-- ---- rounds

-- The round's rules begin with the base. The rules past the base are born of the equations of what the round uses.
abbrev pub IsReachedRound : Plan → RoundView → Type 0
IsReachedRound plan round =
    BeginsWith plan.base round.rules × IsReached (length plan.base) (given plan (chosen plan.all round.used)) round.rules

-- The flags after the round. If the round ended, they are set for what its rules show. Otherwise they are set for what the round used and
-- for what reduction by its rules shows.
abbrev pub LeavesFlags : Limits → Plan → RoundView → List Bool → Type 0
LeavesFlags limits plan round flags =
    (Ends limits plan (chosen plan.all round.used) round.rules × Tells (AreShown plan round.rules) plan.all flags)
    ⊎ TellsMore (AreShownByReduction plan round.rules) plan.all round.used flags

last_of : (r : RoundView) (rounds : List RoundView) → 0 < length rounds → last_rules (r ∷ rounds) ≡ last_rules rounds
last_of r [] l = absurd (omega (arith, l))
last_of r (s ∷ rounds) l = refl

module _ {limits : Limits} {plan : Plan} where
  pub reached_at : {used : List Bool} {first : Option Passed} {rounds : List RoundView} → AreRoundsFrom limits plan used first rounds
      → (k : ℕ) (round : RoundView) → slice_get rounds k ≡ Some round → IsReachedRound plan round
  reached_at {used} (the_last {rules = rules} due e t) zero round is =
      let same : ended_round used rules ≡ round = cc in subst (IsReachedRound plan) same (e.0, e.1.ended.reached)
  reached_at (the_last due e t) (suc k) round is = cc
  reached_at {used} (before_others {rules = rules} due e t d o) zero round is =
      let same : ended_round used rules ≡ round = cc in subst (IsReachedRound plan) same (e.0, e.1.ended.reached)
  reached_at (before_others due e t d o) (suc k) round is = reached_at o k round is
  reached_at {used} (begun_anew {rules = rules} passed s j o) zero round is =
      let same : stopped_round used passed.trace rules ≡ round = cc in
      subst (IsReachedRound plan) same (j.bears.0, j.bears.1.reached)
  reached_at (begun_anew passed s j o) (suc k) round is = reached_at o k round is
  reached_at {used} (once_more {rules = rules} j o) zero round is =
      let same : short_round used rules ≡ round = cc in subst (IsReachedRound plan) same (j.bears.0, j.bears.1.reached)
  reached_at (once_more j o) (suc k) round is = reached_at o k round is

  first_used : {used : List Bool} {first : Option Passed} {rounds : List RoundView} → AreRoundsFrom limits plan used first rounds
      → (round : RoundView) → slice_get rounds 0 ≡ Some round → round.used ≡ used
  first_used {used} (the_last {rules = rules} due e t) round is =
      let same : ended_round used rules ≡ round = cc in sym (ap (λ (r : RoundView). r.used) same)
  first_used {used} (before_others {rules = rules} due e t d o) round is =
      let same : ended_round used rules ≡ round = cc in sym (ap (λ (r : RoundView). r.used) same)
  first_used {used} (begun_anew {rules = rules} passed s j o) round is =
      let same : stopped_round used passed.trace rules ≡ round = cc in sym (ap (λ (r : RoundView). r.used) same)
  first_used {used} (once_more {rules = rules} j o) round is =
      let same : short_round used rules ≡ round = cc in sym (ap (λ (r : RoundView). r.used) same)

  -- A round uses what the round before it left.
  pub left_at : {used : List Bool} {first : Option Passed} {rounds : List RoundView} → AreRoundsFrom limits plan used first rounds
      → (k : ℕ) (earlier round : RoundView) → slice_get rounds k ≡ Some earlier → slice_get rounds (suc k) ≡ Some round
      → LeavesFlags limits plan earlier round.used
  left_at (the_last due e t) zero earlier round is next = cc
  left_at (the_last due e t) (suc k) earlier round is next = cc
  left_at {used} (before_others {rules = rules} due e t d o) zero earlier round is next =
      let same : ended_round used rules ≡ earlier = cc in
      subst (λ z. LeavesFlags limits plan z round.used) same
      (subst (LeavesFlags limits plan (ended_round used rules)) (sym (first_used o round next)) (inl (e, t)))
  left_at (before_others due e t d o) (suc k) earlier round is next = left_at o k earlier round is next
  left_at {used} (begun_anew {rules = rules} passed s j o) zero earlier round is next =
      let same : stopped_round used passed.trace rules ≡ earlier = cc in
      subst (λ z. LeavesFlags limits plan z round.used) same
      (subst (LeavesFlags limits plan (stopped_round used passed.trace rules)) (sym (first_used o round next)) (inr j.joins))
  left_at (begun_anew passed s j o) (suc k) earlier round is next = left_at o k earlier round is next
  left_at {used} (once_more {rules = rules} j o) zero earlier round is next =
      let same : short_round used rules ≡ earlier = cc in
      subst (λ z. LeavesFlags limits plan z round.used) same
      (subst (LeavesFlags limits plan (short_round used rules)) (sym (first_used o round next)) (inr j.joins))
  left_at (once_more j o) (suc k) earlier round is next = left_at o k earlier round is next

  pub none_at_first : {rounds : List RoundView} → AreRounds limits plan rounds → (round : RoundView) → slice_get rounds 0 ≡ Some round
      → round.used ≡ replicate (length plan.all) false
  none_at_first h round is = first_used h round is

  pub some_round : {used : List Bool} {first : Option Passed} {rounds : List RoundView} → AreRoundsFrom limits plan used first rounds
      → 0 < length rounds
  some_round (the_last due e t) = omega arith
  some_round (before_others due e t d o) = omega arith
  some_round (begun_anew passed s j o) = omega arith
  some_round (once_more j o) = omega arith

  -- each round has a flag for each requirement
  pub flags_of : {rounds : List RoundView} → AreRounds limits plan rounds → HaveFlags (length plan.all) rounds
  flags_of h zero round is = ap length (none_at_first h round is) ∙ length-replicate (length plan.all) false
  flags_of {rounds} h (suc k) round is =
      let within = slice_get_within rounds (suc k) round is in
      let (earlier, at) = there_is rounds k (omega (arith, within)) in
      elim (left_at h k earlier round at is) [
        | inl l ↦ tells_length (AreShown plan earlier.rules) plan.all round.used l.1
        | inr l ↦ more_length (AreShownByReduction plan earlier.rules) plan.all earlier.used round.used l
      ]

  -- ---- the last round

  -- the last round ended
  pub last_ends : {used : List Bool} {first : Option Passed} {rounds : List RoundView} → AreRoundsFrom limits plan used first rounds
      → (last : List Item) × Ends limits plan last (last_rules rounds)
  last_ends {used} (the_last due e t) = (chosen plan.all used, e)
  last_ends {used} (before_others {rules = rules} {others = others} due e t d o) =
      let h = last_ends o in
      (h.0, subst (Ends limits plan h.0) (sym (last_of (ended_round used rules) others (some_round o))) h.1)
  last_ends {used} (begun_anew {rules = rules} {others = others} passed s j o) =
      let h = last_ends o in
      (h.0, subst (Ends limits plan h.0) (sym (last_of (stopped_round used passed.trace rules) others (some_round o))) h.1)
  last_ends {used} (once_more {rules = rules} {others = others} j o) =
      let h = last_ends o in
      (h.0, subst (Ends limits plan h.0) (sym (last_of (short_round used rules) others (some_round o))) h.1)

-- if the rules of the base are complete, so are the rules of a round that ended
pub ended_complete : (limits : Limits) (plan : Plan) (used : List Item) (rules : List Rule) → IsComplete plan.base
    → Ends limits plan used rules → length rules < 2 ^ 32 - 1 → IsComplete rules
ended_complete limits plan used rules c e few =
    let base = subst IsComplete (sym e.0) c in record {
      meet = pairs_meet (length plan.base) (given plan used) rules base.meet e.1.ended;
      fresh = fresh_of_reached (length plan.base) (given plan used) rules e.1.ended.reached base.fresh;
      few = few;
    }

pub none_complete : IsComplete []
none_complete = record {
  meet = λ place left right p. absurd (no_rule p.first_at.0 p.first p.first_at.2);
  fresh = λ k rule e. absurd (no_rule k rule e);
  few = omega arith;
}
  where
    no_rule : (k : ℕ) (rule : Rule) → slice_get [] k ≡ Some rule → ⊥
    no_rule k rule e = cc

-- If there are rounds, there is a last one, and it has the last rules.
pub last_is : (rounds : List RoundView) → 0 < length rounds
    → (round : RoundView) × (slice_get rounds (length rounds - 1) ≡ Some round) × (round.rules ≡ last_rules rounds)
last_is [] l = absurd (omega (arith, l))
last_is (r ∷ []) l = (r, refl, refl)
last_is (r ∷ s ∷ rounds) l =
    let h = last_is (s ∷ rounds) (omega arith) in
    let e : length (r ∷ s ∷ rounds) - 1 ≡ suc (length (s ∷ rounds) - 1) = omega arith in
    (h.0, ap (slice_get (r ∷ s ∷ rounds)) e ∙ h.1, h.2)
