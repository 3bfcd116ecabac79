-- The rules of the last round begin with the base of the plan.
use Rattle.std.proofs.Common.{◌≡◌, Bool, List, ◌∷◌, Option, refl, subst, sym}
use Rattle.swreq_complete.specs.Reached.{BeginsWith}
use Rattle.swreq_complete.specs.declared.limit.Limits.{Limits}
use Rattle.swreq_rounds.specs.Plan.{Plan}
use Rattle.swreq_rounds.specs.Rounds.{Passed}
use Rattle.swreq_valid.specs.Rounds.{AreRoundsFrom, RoundView, ended_round, last_rules, short_round, stopped_round}
use Rattle.swreq_valid.specs.Rounds.AreRoundsFrom.{before_others, begun_anew, once_more, the_last}

module _ {limits : Limits} {plan : Plan} where
  last_of : {used : List Bool} {first : Option Passed} {rounds : List RoundView} → AreRoundsFrom limits plan used first rounds
      → (r : RoundView) → last_rules (r ∷ rounds) ≡ last_rules rounds
  last_of (the_last due e t) r = refl
  last_of (before_others due e t d o) r = refl
  last_of (begun_anew passed s j o) r = refl
  last_of (once_more j o) r = refl

  -- the rules of the last round begin with the base
  pub last_begins : {used : List Bool} {first : Option Passed} {rounds : List RoundView} → AreRoundsFrom limits plan used first rounds
      → BeginsWith plan.base (last_rules rounds)
  last_begins (the_last due e t) = e.0
  last_begins {used} (before_others {rules = rules} due e t d o) =
      subst (BeginsWith plan.base) (sym (last_of o (ended_round used rules))) (last_begins o)
  last_begins {used} (begun_anew {rules = rules} passed s j o) =
      subst (BeginsWith plan.base) (sym (last_of o (stopped_round used passed.trace rules))) (last_begins o)
  last_begins {used} (once_more {rules = rules} j o) =
      subst (BeginsWith plan.base) (sym (last_of o (short_round used rules))) (last_begins o)
